-- Texts that name the same path settle alike, if neither is over the length.
use Rattle.std.proofs.Common.{◌≡◌, ℕ, ◌+◌, ◌≤◌, Bool, true, false, cond, ◌&&◌, List, [], ◌∷◌, ◌++◌, map, length, sym, refl, ap, ◌∙◌, arith}
use Rattle.std.proofs.lemmas.List.{map-append, append-nil}
use Rattle.std.proofs.lemmas.Bool.{le-leb}
use Rattle.std.specs.List.{list_all}
use Rattle.spelling.specs.Alike.{Alike, letter, kind, run, left_end, right_end, none, back, then}
use Rattle.spelling.specs.Settling.{allowed, is_slash, plain, trim_left, trim_right, merge_runs, spelled, settle}
use Rattle.spelling.proofs.Bytes.{is_allowed, capital_plain, plain_stays}
use Rattle.spelling.proofs.Squeezing.{squeezed, squeezed_more, trim_left_twice}
use Rattle.spelling.proofs.Trimming.{trim_right_slash}

-- two texts that settling cannot tell apart, but for their lengths
pub record Same (t u : List ℕ) : Type 0 where
  pub spelled_same : spelled t ≡ spelled u
  pub allowed_same : list_all allowed t ≡ list_all allowed u

-- a byte is changed for one that reads alike
spelled_byte : (before after : List ℕ) (a b : ℕ) → plain a ≡ plain b → spelled (before ++ a ∷ after) ≡ spelled (before ++ b ∷ after)
unfolding spelled
spelled_byte before after a b e = rw (map-append plain before (a ∷ after), map-append plain before (b ∷ after), e) refl

-- whether all bytes are allowed, after a front that both texts have
allowed_after : (before t u : List ℕ) → list_all allowed t ≡ list_all allowed u → list_all allowed (before ++ t) ≡ list_all allowed (before ++ u)
allowed_after [] t u e = e
allowed_after (x ∷ before) t u e = ap (λ (r : Bool). allowed x && r) (allowed_after before t u e)

allowed_byte : (before after : List ℕ) (a b : ℕ) → allowed a ≡ allowed b → list_all allowed (before ++ a ∷ after) ≡ list_all allowed (before ++ b ∷ after)
allowed_byte before after a b e = allowed_after before (a ∷ after) (b ∷ after) (rw e refl)

-- a slash more or less in a run
merge_slashes : (before after : List ℕ) → merge_runs (before ++ 47 ∷ 47 ∷ after) ≡ merge_runs (before ++ 47 ∷ after)
merge_slashes [] after = ap (λ (l : List ℕ). 47 ∷ l) (trim_left_twice (merge_runs after))
merge_slashes (x ∷ before) after = ap (λ (l : List ℕ). x ∷ cond (is_slash x) (trim_left l) l) (merge_slashes before after)

spelled_run : (before after : List ℕ) → spelled (before ++ 47 ∷ 47 ∷ after) ≡ spelled (before ++ 47 ∷ after)
unfolding spelled
spelled_run before after =
    rw (map-append plain before (47 ∷ 47 ∷ after), map-append plain before (47 ∷ after)) (ap (λ (l : List ℕ). trim_right (trim_left l)) (merge_slashes (map plain before) (map plain after)))

-- a slash at an end
spelled_left : (t : List ℕ) → spelled (47 ∷ t) ≡ spelled t
unfolding spelled
spelled_left t = ap trim_right (trim_left_twice (merge_runs (map plain t)))

cond_append : (s : Bool) (b : ℕ) (xs ys : List ℕ) → cond s (xs ++ ys) (b ∷ (xs ++ ys)) ≡ cond s xs (b ∷ xs) ++ ys
cond_append true b xs ys = refl
cond_append false b xs ys = refl

-- a slash after a text is kept or not, and nothing else changes
squeezed_end : (after : Bool) (xs : List ℕ) → (s : Bool) × (squeezed after (xs ++ 47 ∷ []) ≡ squeezed after xs ++ cond s (47 ∷ []) [])
squeezed_end true [] = (false, refl)
squeezed_end false [] = (true, refl)
squeezed_end after (b ∷ xs) =
    let rest = squeezed_end (is_slash b) xs in
    (rest.0, squeezed_more after b (xs ++ 47 ∷ []) ∙ rw (rest.1, squeezed_more after b xs) (cond_append (is_slash b && after) b (squeezed (is_slash b) xs) (cond rest.0 (47 ∷ []) [])))

trim_end : (xs : List ℕ) (s : Bool) → trim_right (xs ++ cond s (47 ∷ []) []) ≡ trim_right xs
trim_end xs true = trim_right_slash xs 47 refl
trim_end xs false = ap trim_right (append-nil xs)

spelled_right : (t : List ℕ) → spelled (t ++ 47 ∷ []) ≡ spelled t
unfolding spelled
spelled_right t =
    let end = squeezed_end true (map plain t) in
    rw (map-append plain t (47 ∷ [])) (ap trim_right end.1 ∙ trim_end (trim_left (merge_runs (map plain t))) end.0)

allowed_right : (t : List ℕ) → list_all allowed (t ++ 47 ∷ []) ≡ list_all allowed t
allowed_right t = allowed_after t (47 ∷ []) [] refl ∙ ap (list_all allowed) (append-nil t)

pub alike_same : {t u : List ℕ} → Alike t u → Same t u
alike_same (letter before after b low high) =
    record {
      spelled_same = spelled_byte before after b (b + 32) (capital_plain b low high ∙ sym (plain_stays (b + 32) (λ p q. omega arith) (λ e. omega arith)));
      allowed_same = allowed_byte before after b (b + 32) (is_allowed b (omega arith) (omega arith) ∙ sym (is_allowed (b + 32) (omega arith) (omega arith)));
    }
alike_same (kind before after) = record { spelled_same = spelled_byte before after 92 47 refl; allowed_same = allowed_byte before after 92 47 refl }
alike_same (run before after) = record { spelled_same = spelled_run before after; allowed_same = allowed_after before (47 ∷ 47 ∷ after) (47 ∷ after) refl }
alike_same (left_end text) = record { spelled_same = spelled_left text; allowed_same = refl }
alike_same (right_end text) = record { spelled_same = spelled_right text; allowed_same = allowed_right text }
alike_same (none text) = record { spelled_same = refl; allowed_same = refl }
alike_same (back t u h) = let s = alike_same h in record { spelled_same = sym s.spelled_same; allowed_same = sym s.allowed_same }
alike_same (then t u v h k) =
    let s = alike_same h in
    let r = alike_same k in
    record { spelled_same = s.spelled_same ∙ r.spelled_same; allowed_same = s.allowed_same ∙ r.allowed_same }

pub settles_alike : (t u : List ℕ) → Alike t u → length t ≤ 120 → length u ≤ 120 → settle t ≡ settle u
unfolding settle
settles_alike t u h short short' =
    let s = alike_same h in
    rw (le-leb (length t) 120 short, le-leb (length u) 120 short', s.spelled_same, s.allowed_same) refl
