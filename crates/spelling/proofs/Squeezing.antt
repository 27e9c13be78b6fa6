-- Merging runs and trimming the left end in one pass, which remembers only whether the last byte was a slash.
use Rattle.std.proofs.Common.{◌≡◌, ℕ, Bool, true, false, cond, ◌&&◌, List, [], ◌∷◌, refl}
use Rattle.spelling.specs.Settling.{is_slash, trim_left, merge_runs}

-- what is left of a text that follows a slash, or a text that does not
abbrev pub squeezed : Bool → List ℕ → List ℕ
squeezed after bs = cond after (trim_left (merge_runs bs)) (merge_runs bs)

-- a first byte that is no slash stops the trimming
trim_kept : (b : ℕ) (bs : List ℕ) (s : Bool) → is_slash b ≡ s → trim_left (trim_left bs) ≡ trim_left bs → trim_left (cond s (trim_left bs) (b ∷ bs)) ≡ cond s (trim_left bs) (b ∷ bs)
trim_kept b bs true e rest = rest
trim_kept b bs false e rest = rw e refl

pub trim_left_twice : (bs : List ℕ) → trim_left (trim_left bs) ≡ trim_left bs
trim_left_twice [] = refl
trim_left_twice (b ∷ bs) = trim_kept b bs (is_slash b) refl (trim_left_twice bs)

-- one byte more: a slash after a slash goes, any other byte stays
more_by : (after s : Bool) (b : ℕ) (bs : List ℕ) → is_slash b ≡ s → squeezed after (b ∷ bs) ≡ cond (is_slash b && after) (squeezed (is_slash b) bs) (b ∷ squeezed (is_slash b) bs)
more_by true true b bs e = rw e (trim_left_twice (merge_runs bs))
more_by true false b bs e = rw e refl
more_by false true b bs e = rw e refl
more_by false false b bs e = rw e refl

pub squeezed_more : (after : Bool) (b : ℕ) (bs : List ℕ) → squeezed after (b ∷ bs) ≡ cond (is_slash b && after) (squeezed (is_slash b) bs) (b ∷ squeezed (is_slash b) bs)
squeezed_more after b bs = more_by after (is_slash b) b bs refl
