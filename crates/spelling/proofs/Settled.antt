-- What is granted is settled, and a settled text is given back.
use Rattle.std.proofs.Common.{◌≡◌, ℕ, suc, ◌≤◌, Bool, true, false, List, [], ◌∷◌, map, length, get_or, Ok, refl, ap, ◌∙◌, add-one, arith}
use Rattle.std.proofs.lemmas.Bool.{and_from, ne_eqb, eqb-true}
use Rattle.std.specs.List.{list_all}
use Rattle.spelling.specs.Settled.{Printable, NoCapital, NoBackslash, NoRun, Settled}
use Rattle.spelling.specs.Settling.{allowed, is_slash, plain, trim_left, merge_runs, spelled, settle}
use Rattle.spelling.proofs.Bytes.{is_allowed, plain_stays}
use Rattle.spelling.proofs.Cases.{granted, grants}
use Rattle.spelling.proofs.Shape.{spelled_settled}
use Rattle.spelling.proofs.Trimming.{trim_right_stays}

pub grants_settled : (t s : List ℕ) → settle t ≡ Ok s → Settled s
grants_settled t s e =
    let g = granted t s e in
    rw g.is_spelled (spelled_settled t g.good g.some g.few)

-- each pass leaves a settled text as it is
all_allowed : (t : List ℕ) → Printable t → list_all allowed t ≡ true
all_allowed [] h = refl
all_allowed (b ∷ t) h =
    let here = h 0 (omega arith) in
    and_from (allowed b) (list_all allowed t) (is_allowed b here.0 here.1) (all_allowed t (λ k lt. h (suc k) (omega arith)))

map_stays : (t : List ℕ) → NoCapital t → NoBackslash t → map plain t ≡ t
map_stays [] small straight = refl
map_stays (b ∷ t) small straight =
    let here = plain_stays b (small 0) (straight 0) in
    let rest = map_stays t (λ k. small (suc k)) (λ k. straight (suc k)) in
    cc

pub trim_left_stays : (t : List ℕ) → (get_or t 0 0 ≡ 47 → ⊥) → trim_left t ≡ t
trim_left_stays [] other = refl
trim_left_stays (b ∷ t) other = rw (ne_eqb b 47 other) refl

merge_stays_by : (b : ℕ) (t : List ℕ) (s : Bool) → is_slash b ≡ s → NoRun (b ∷ t) → merge_runs t ≡ t → merge_runs (b ∷ t) ≡ b ∷ t
merge_stays_by b t true e single rest =
    rw (e, rest) (ap (λ (l : List ℕ). b ∷ l) (trim_left_stays t (λ f. single 0 (eqb-true b 47 e) f)))
merge_stays_by b t false e single rest = rw (e, rest) refl

merge_stays : (t : List ℕ) → NoRun t → merge_runs t ≡ t
merge_stays [] single = refl
merge_stays (b ∷ t) single = merge_stays_by b t (is_slash b) refl single (merge_stays t (λ k e f. single (suc k) e (rw add-one (rw add-one at f))))

spelled_stays : (t : List ℕ) → Settled t → spelled t ≡ t
unfolding spelled
spelled_stays t h =
    rw (map_stays t h.lower_case h.forward, merge_stays t h.merged, trim_left_stays t h.trimmed.0) (trim_right_stays t (ne_eqb _ 47 h.trimmed.1))

pub gives_back : (t : List ℕ) → Settled t → settle t ≡ Ok t
gives_back t h =
    let same = spelled_stays t h in
    let some : 1 ≤ length (spelled t) = rw same h.short.0 in
    let few : length (spelled t) ≤ 40 = rw same h.short.1 in
    grants t (omega (arith, h.short.1)) (all_allowed t h.printable) some few ∙ ap (λ (l : List ℕ). Ok l) same
