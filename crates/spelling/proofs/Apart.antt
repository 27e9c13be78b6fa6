-- No two slashes stand together: as a recursion over the text, and by places.
use Rattle.std.proofs.Common.{◌≡◌, ℕ, zero, suc, Bool, true, false, ◌&&◌, List, [], ◌∷◌, get_or, refl, subst, add-one, arith}
use Rattle.std.proofs.lemmas.Bool.{both_ways, and_from, and_parts, eq-eqb}
use Rattle.spelling.specs.Settling.{is_slash, trim_left, merge_runs}
use Rattle.spelling.specs.Settled.{NoRun}
use Rattle.spelling.proofs.Squeezing.{squeezed, squeezed_more}

-- no slash follows a slash, where `after` says whether one stands before the text
abbrev pub Apart : Bool → List ℕ → Type 0
Apart after [] = Unit {0}
Apart after (b ∷ bs) = ((is_slash b && after) ≡ false) × Apart (is_slash b) bs

apart_step : (after : Bool) (b : ℕ) (bs : List ℕ) (again : Bool) → (is_slash b && after) ≡ again → ((a : Bool) → Apart a (squeezed a bs)) → Apart after (squeezed after (b ∷ bs))
apart_step after b bs true e rest =
    let both = and_parts (is_slash b) after e in
    rw (squeezed_more after b bs, e, both.0, both.1) (rest true)
apart_step after b bs false e rest = rw (squeezed_more after b bs, e) (e, rest (is_slash b))

pub apart_squeezed : (bs : List ℕ) (after : Bool) → Apart after (squeezed after bs)
apart_squeezed [] true = tt
apart_squeezed [] false = tt
apart_squeezed (b ∷ bs) after = apart_step after b bs (is_slash b && after) refl (apart_squeezed bs)

-- by places
pub apart_first : (bs : List ℕ) → Apart true bs → get_or bs 0 0 ≡ 47 → ⊥
apart_first [] h e = omega arith
apart_first (b ∷ bs) h e = both_ways (is_slash b && true) h.0 (and_from (is_slash b) true (eq-eqb b 47 e) refl)

pub apart_no_run : (bs : List ℕ) (after : Bool) → Apart after bs → NoRun bs
apart_no_run [] after h k e f = omega arith
apart_no_run (b ∷ bs) after h zero e f = apart_first bs (subst (λ (a : Bool). Apart a bs) (eq-eqb b 47 e) h.1) f
apart_no_run (b ∷ bs) after h (suc k) e f = apart_no_run bs (is_slash b) h.1 k e (rw add-one (rw add-one at f))

-- what the merging and the trimming of the left end leave
pub merged_no_run : (bs : List ℕ) → NoRun (trim_left (merge_runs bs))
merged_no_run bs = apart_no_run (trim_left (merge_runs bs)) true (apart_squeezed bs true)

pub merged_no_first : (bs : List ℕ) → get_or (trim_left (merge_runs bs)) 0 0 ≡ 47 → ⊥
merged_no_first bs = apart_first (trim_left (merge_runs bs)) (apart_squeezed bs true)
