-- Trimming the right end, one byte at a time and in a text in which no two slashes stand together.
use Rattle.std.proofs.Common.{◌≡◌, ℕ, zero, suc, ◌+◌, ◌-◌, ◌≤◌, true, false, List, [], ◌∷◌, ◌++◌, reverse, length, get_or, take, sym, refl, ap, ◌∙◌, add-one, arith}
use Rattle.std.proofs.lemmas.List.{reverse-append, reverse-reverse, take_more, take_all, length-take-le, get_or-take}
use Rattle.std.proofs.lemmas.Bool.{ne_eqb, eqb-true}
use Rattle.spelling.specs.Settling.{is_slash, trim_right}
use Rattle.spelling.specs.Settled.{NoRun}

-- a slash at the right end goes, and any other byte there stops the trimming
pub trim_right_slash : (bs : List ℕ) (b : ℕ) → is_slash b ≡ true → trim_right (bs ++ b ∷ []) ≡ trim_right bs
trim_right_slash bs b e = rw (reverse-append bs (b ∷ []), e) refl

trim_right_other : (bs : List ℕ) (b : ℕ) → is_slash b ≡ false → trim_right (bs ++ b ∷ []) ≡ bs ++ b ∷ []
trim_right_other bs b e = rw (reverse-append bs (b ∷ []), e) (reverse-append (b ∷ []) (reverse bs) ∙ ap (λ (r : List ℕ). r ++ b ∷ []) (reverse-reverse bs))

-- a text is its last byte after the others
last_apart : (bs : List ℕ) (n : ℕ) → length bs ≡ n + 1 → bs ≡ take n bs ++ get_or bs n 0 ∷ []
last_apart bs n long = sym (take_all (n + 1) bs (omega arith)) ∙ take_more bs n 0 (omega arith)

-- a text that does not end in a slash stays
pub trim_right_stays : (bs : List ℕ) → is_slash (get_or bs (length bs - 1) 0) ≡ false → trim_right bs ≡ bs
trim_right_stays [] e = refl
trim_right_stays (b ∷ bs) e =
    let n = length bs in
    let at : length (b ∷ bs) - 1 ≡ n = omega arith in
    let apart = last_apart (b ∷ bs) n (omega arith) in
    let other : is_slash (get_or (b ∷ bs) n 0) ≡ false = rw at at e in
    ap trim_right apart ∙ trim_right_other (take n (b ∷ bs)) (get_or (b ∷ bs) n 0) other ∙ sym apart

-- the last byte of a front
pub last_of_front : (bs : List ℕ) (n : ℕ) → suc n ≤ length bs → get_or (take (suc n) bs) (length (take (suc n) bs) - 1) 0 ≡ get_or bs n 0
last_of_front bs n in' =
    let long : length (take (suc n) bs) - 1 ≡ n = omega (arith, length-take-le (suc n) bs in') in
    rw long (get_or-take (suc n) bs n 0 (omega arith))

-- the byte before a slash is no slash
pub before_slash : (bs : List ℕ) (n : ℕ) → NoRun bs → n ≤ length bs → get_or bs n 0 ≡ 47 → is_slash (get_or (take n bs) (length (take n bs) - 1) 0) ≡ false
before_slash bs zero single in' e = refl
before_slash bs (suc n) single in' e = rw (last_of_front bs n in') (ne_eqb (get_or bs n 0) 47 (λ h. single n h (rw add-one e)))

-- where no two slashes stand together, a slash at the right end is all that the trimming takes
pub trim_right_once : (bs : List ℕ) → NoRun bs → is_slash (get_or bs (length bs - 1) 0) ≡ true → trim_right bs ≡ take (length bs - 1) bs
trim_right_once [] single e = refl
trim_right_once (b ∷ bs) single e =
    let n = length bs in
    let at : length (b ∷ bs) - 1 ≡ n = omega arith in
    let slash : is_slash (get_or (b ∷ bs) n 0) ≡ true = rw at at e in
    rw at (
    ap trim_right (last_apart (b ∷ bs) n (omega arith))
    ∙ trim_right_slash (take n (b ∷ bs)) (get_or (b ∷ bs) n 0) slash
    ∙ trim_right_stays (take n (b ∷ bs)) (before_slash (b ∷ bs) n single (omega arith) (eqb-true _ 47 slash)))
