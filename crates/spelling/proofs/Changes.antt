-- What is left of a text names the same path, since each pass is made of changes that keep the path. With this the
-- laws are complete.
use Rattle.std.proofs.Common.{◌≡◌, ℕ, ◌<◌, ◌≤◌, Bool, true, false, List, [], ◌∷◌, ◌++◌, map, reverse, Ok, refl, subst, ⊎_elim, append_assoc, arith}
use Rattle.std.proofs.lemmas.List.{reverse-append, reverse-reverse}
use Rattle.std.proofs.lemmas.Bool.{eqb-true, cases_lt, cases_eq}
use Rattle.spelling.specs.Alike.{Alike, letter, kind, run, left_end, right_end, none, back, then}
use Rattle.spelling.specs.Laws.{Lawful}
use Rattle.spelling.specs.Settling.{is_slash, plain, trim_left, trim_right, merge_runs, spelled, settle}
use Rattle.spelling.proofs.Bytes.{capital_plain, plain_stays}
use Rattle.spelling.proofs.Cases.{granted}
use Rattle.spelling.proofs.Settled.{grants_settled, gives_back}
use Rattle.spelling.proofs.Paths.{settles_alike}

-- one byte
alike_byte : (before after : List ℕ) (b : ℕ) → Alike (before ++ b ∷ after) (before ++ plain b ∷ after)
alike_byte before after b =
    ⊎_elim (λ e. rw e (kind before after)) (λ straight.
    ⊎_elim (λ (lt : b < 65). rw (plain_stays b (λ low high. omega arith) straight) (none (before ++ b ∷ after))) (λ (low : 65 ≤ b).
    ⊎_elim (λ (gt : 90 < b). rw (plain_stays b (λ low' high. omega arith) straight) (none (before ++ b ∷ after))) (λ (high : b ≤ 90).
    rw (capital_plain b low high) (letter before after b low high))
    (cases_lt 90 b))
    (cases_lt b 65))
    (cases_eq b 92)

alike_plain : (before t : List ℕ) → Alike (before ++ t) (before ++ map plain t)
alike_plain before [] = none (before ++ [])
alike_plain before (b ∷ t) =
    let rest : Alike (before ++ plain b ∷ t) (before ++ plain b ∷ map plain t) =
    rw (append_assoc before (plain b ∷ []) t, append_assoc before (plain b ∷ []) (map plain t)) at (alike_plain (before ++ plain b ∷ []) t) in
    then (before ++ b ∷ t) (before ++ plain b ∷ t) (before ++ plain b ∷ map plain t) (alike_byte before t b) rest

-- the slashes after a slash
alike_run : (before m : List ℕ) → Alike (before ++ 47 ∷ m) (before ++ 47 ∷ trim_left m)
alike_run before [] = none (before ++ 47 ∷ [])
alike_run before (b ∷ m) = by_slash before b m (is_slash b) refl (alike_run before m)
  where
    by_slash : (before : List ℕ) (b : ℕ) (m : List ℕ) (s : Bool) → is_slash b ≡ s → Alike (before ++ 47 ∷ m) (before ++ 47 ∷ trim_left m) → Alike (before ++ 47 ∷ b ∷ m) (before ++ 47 ∷ trim_left (b ∷ m))
    by_slash before b m true e rest =
        rw (e, eqb-true b 47 e) (then (before ++ 47 ∷ 47 ∷ m) (before ++ 47 ∷ m) (before ++ 47 ∷ trim_left m) (run before m) rest)
    by_slash before b m false e rest = rw e (none (before ++ 47 ∷ b ∷ m))

alike_merge : (before t : List ℕ) → Alike (before ++ t) (before ++ merge_runs t)
alike_merge before [] = none (before ++ [])
alike_merge before (b ∷ t) = by_slash before b t (is_slash b) refl (rw (append_assoc before (b ∷ []) t, append_assoc before (b ∷ []) (merge_runs t)) at (alike_merge (before ++ b ∷ []) t))
  where
    by_slash : (before : List ℕ) (b : ℕ) (t : List ℕ) (s : Bool) → is_slash b ≡ s → Alike (before ++ b ∷ t) (before ++ b ∷ merge_runs t) → Alike (before ++ b ∷ t) (before ++ merge_runs (b ∷ t))
    by_slash before b t true e rest =
        let b_is = eqb-true b 47 e in
        rw e (then (before ++ b ∷ t) (before ++ b ∷ merge_runs t) (before ++ b ∷ trim_left (merge_runs t)) rest (rw b_is (alike_run before (merge_runs t))))
    by_slash before b t false e rest = rw e rest

-- the slashes at the ends
alike_left : (t : List ℕ) → Alike t (trim_left t)
alike_left [] = none []
alike_left (b ∷ t) = by_slash b t (is_slash b) refl (alike_left t)
  where
    by_slash : (b : ℕ) (t : List ℕ) (s : Bool) → is_slash b ≡ s → Alike t (trim_left t) → Alike (b ∷ t) (trim_left (b ∷ t))
    by_slash b t true e rest = rw (e, eqb-true b 47 e) (then (47 ∷ t) t (trim_left t) (left_end t) rest)
    by_slash b t false e rest = rw e (none (b ∷ t))

alike_end : (r : List ℕ) → Alike (reverse r) (reverse (trim_left r))
alike_end [] = none []
alike_end (b ∷ r) = by_slash b r (is_slash b) refl (alike_end r)
  where
    by_slash : (b : ℕ) (r : List ℕ) (s : Bool) → is_slash b ≡ s → Alike (reverse r) (reverse (trim_left r)) → Alike (reverse (b ∷ r)) (reverse (trim_left (b ∷ r)))
    by_slash b r true e rest =
        rw (e, eqb-true b 47 e, reverse-append (47 ∷ []) r) (then (reverse r ++ 47 ∷ []) (reverse r) (reverse (trim_left r)) (right_end (reverse r)) rest)
    by_slash b r false e rest = rw e (none (reverse (b ∷ r)))

alike_right : (t : List ℕ) → Alike t (trim_right t)
alike_right t = subst (λ (l : List ℕ). Alike l (trim_right t)) (reverse-reverse t) (alike_end (reverse t))

alike_spelled : (t : List ℕ) → Alike t (spelled t)
unfolding spelled
alike_spelled t =
    let plain' = map plain t in
    let merged = merge_runs plain' in
    then t plain' (trim_right (trim_left merged)) (alike_plain [] t)
    (then plain' merged (trim_right (trim_left merged)) (alike_merge [] plain')
    (then merged (trim_left merged) (trim_right (trim_left merged)) (alike_left merged) (alike_right (trim_left merged))))

grants_same_path : (t s : List ℕ) → settle t ≡ Ok s → Alike t s
grants_same_path t s e = rw (granted t s e).is_spelled (alike_spelled t)

keeps_apart : (t u s : List ℕ) → settle t ≡ Ok s → settle u ≡ Ok s → Alike t u
keeps_apart t u s e f = then t s u (grants_same_path t s e) (back u s (grants_same_path u s f))

pub lawful : (t : List ℕ) → Lawful t
lawful t =
    record {
      grants_settled = grants_settled t;
      grants_same_path = grants_same_path t;
      gives_back = gives_back t;
      settles_alike = settles_alike t;
      keeps_apart = keeps_apart t;
    }
