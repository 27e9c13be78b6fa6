-- The bytes of a spelled text: what the passes leave is settled, but for its length.
use Rattle.std.proofs.Common.{◌≡◌, ℕ, ◌+◌, ◌-◌, ◌≤◌, Bool, true, false, cond, eqb, ltb, leb, ◌⊎◌, List, [], ◌∷◌, map, length, get_or, take, sym, refl, ◌∙◌, inl, inr, ⊎_elim, arith}
use Rattle.std.proofs.ByRecursion.{All-take, All-get_or}
use Rattle.std.proofs.lemmas.List.{take_all, get_or-take, get_or_past, length-take}
use Rattle.std.proofs.lemmas.Bool.{cases_lt, and_parts, leb-true, ltb-true, ltb-false, eqb-true, eqb-false, cond_both}
use Rattle.std.specs.List.{AllByRecursion, list_all}
use Rattle.spelling.specs.Settled.{NoRun, Settled}
use Rattle.spelling.specs.Settling.{allowed, is_slash, plain, trim_left, trim_right, merge_runs, spelled}
use Rattle.spelling.proofs.Apart.{merged_no_run, merged_no_first}
use Rattle.spelling.proofs.Trimming.{trim_right_stays, trim_right_once, before_slash}

-- a byte that settling may leave
abbrev pub Clean : ℕ → Type 0
Clean b = (32 ≤ b) × (b ≤ 126) × (65 ≤ b → b ≤ 90 → ⊥) × (b ≡ 92 → ⊥)

clean_forward : (b : ℕ) → 32 ≤ b → b ≤ 126 → (65 ≤ b → b ≤ 90 → ⊥) → Clean (cond (eqb b 92) 47 b)
clean_forward b low high small =
    cond_both (eqb b 92) 47 b Clean (λ e. (omega arith, omega arith, λ p q. omega arith, λ e. omega arith)) (λ e. (low, high, small, eqb-false b 92 e))

clean_plain : (b : ℕ) → allowed b ≡ true → Clean (plain b)
clean_plain b h =
    let in' = and_parts (leb 32 b) (leb b 126) h in
    let low = leb-true 32 b in'.0 in
    let high = leb-true b 126 in'.1 in
    cond_both (ltb b 65) b (cond (ltb b 91) (b + 32) b) (λ x. Clean (cond (eqb x 92) 47 x))
    (λ e. let lt = ltb-true b 65 e in clean_forward b low high (λ p q. omega arith))
    (λ e. let ge = ltb-false b 65 e in
    cond_both (ltb b 91) (b + 32) b (λ x. Clean (cond (eqb x 92) 47 x))
    (λ f. let lt = ltb-true b 91 f in clean_forward (b + 32) (omega arith) (omega arith) (λ p q. omega arith))
    (λ f. let ge' = ltb-false b 91 f in clean_forward b low high (λ p q. omega arith)))

all_plain : (t : List ℕ) → list_all allowed t ≡ true → AllByRecursion Clean (map plain t)
all_plain [] h = tt
all_plain (b ∷ t) h =
    let parts = and_parts (allowed b) (list_all allowed t) h in
    (clean_plain b parts.0, all_plain t parts.1)

-- the passes leave bytes out, and add none
all_cond : (P : ℕ → Type 0) (s : Bool) (xs ys : List ℕ) → AllByRecursion P xs → AllByRecursion P ys → AllByRecursion P (cond s xs ys)
all_cond P true xs ys h k = h
all_cond P false xs ys h k = k

all_trim_left : (P : ℕ → Type 0) (t : List ℕ) → AllByRecursion P t → AllByRecursion P (trim_left t)
all_trim_left P [] h = tt
all_trim_left P (b ∷ t) h = all_cond P (is_slash b) (trim_left t) (b ∷ t) (all_trim_left P t h.1) h

all_merge_runs : (P : ℕ → Type 0) (t : List ℕ) → AllByRecursion P t → AllByRecursion P (merge_runs t)
all_merge_runs P [] h = tt
all_merge_runs P (b ∷ t) h =
    let rest = all_merge_runs P t h.1 in
    (h.0, all_cond P (is_slash b) (trim_left (merge_runs t)) (merge_runs t) (all_trim_left P (merge_runs t) rest) rest)

-- the right end is trimmed: a front of the text is left, which does not end in a slash
pub record Trimmed (bs : List ℕ) : Type 0 where
  pub size : ℕ
  pub front : trim_right bs ≡ take size bs
  pub last : is_slash (get_or (trim_right bs) (length (trim_right bs) - 1) 0) ≡ false

trimmed_by : (bs : List ℕ) → NoRun bs → (s : Bool) → is_slash (get_or bs (length bs - 1) 0) ≡ s → Trimmed bs
trimmed_by bs single false e =
    let same = trim_right_stays bs e in
    record { size = length bs; front = same ∙ sym (take_all (length bs) bs (omega arith)); last = rw same e }
trimmed_by bs single true e =
    let cut = trim_right_once bs single e in
    record { size = length bs - 1; front = cut; last = rw cut (before_slash bs (length bs - 1) single (omega arith) (eqb-true _ 47 e)) }

-- a byte of a front is that byte of the text, or past the front
front_byte : (n k : ℕ) (bs : List ℕ) → (get_or (take n bs) k 0 ≡ get_or bs k 0) ⊎ (get_or (take n bs) k 0 ≡ 0)
front_byte n k bs =
    ⊎_elim (λ lt. inl (get_or-take n bs k 0 lt)) (λ le. inr (get_or_past (take n bs) k 0 (omega (arith, length-take n bs)))) (cases_lt k n)

front_no_run : (n : ℕ) (bs : List ℕ) → NoRun bs → NoRun (take n bs)
front_no_run n bs single k e f =
    ⊎_elim (λ p. ⊎_elim (λ q. single k (sym p ∙ e) (sym q ∙ f)) (λ q. omega arith) (front_byte n (k + 1) bs)) (λ p. omega arith) (front_byte n k bs)

front_no_first : (n : ℕ) (bs : List ℕ) → (get_or bs 0 0 ≡ 47 → ⊥) → get_or (take n bs) 0 0 ≡ 47 → ⊥
front_no_first n bs none e = ⊎_elim (λ p. none (sym p ∙ e)) (λ p. omega arith) (front_byte n 0 bs)

-- a clean byte, or none
clean_at : (t : List ℕ) → AllByRecursion Clean t → (k : ℕ) → Clean (get_or t k 0) ⊎ (get_or t k 0 ≡ 0)
clean_at t h k = ⊎_elim (λ lt. inl (All-get_or Clean t k 0 lt h)) (λ le. inr (get_or_past t k 0 le)) (cases_lt k (length t))

pub spelled_settled : (t : List ℕ) → list_all allowed t ≡ true → 1 ≤ length (spelled t) → length (spelled t) ≤ 40 → Settled (spelled t)
unfolding spelled
spelled_settled t h some few =
    let merged = trim_left (merge_runs (map plain t)) in
    let single = merged_no_run (map plain t) in
    let cut = trimmed_by merged single (is_slash (get_or merged (length merged - 1) 0)) refl in
    let front = take cut.size merged in
    let clean : AllByRecursion Clean front =
    All-take Clean cut.size merged (all_trim_left Clean (merge_runs (map plain t)) (all_merge_runs Clean (map plain t) (all_plain t h))) in
    record {
      printable = rw cut.front (λ k lt. let b = All-get_or Clean front k 0 lt clean in (b.0, b.1));
      lower_case = rw cut.front (λ k p q. ⊎_elim (λ b. b.2 p q) (λ z. omega arith) (clean_at front clean k));
      forward = rw cut.front (λ k e. ⊎_elim (λ b. b.3 e) (λ z. omega arith) (clean_at front clean k));
      merged = rw cut.front (front_no_run cut.size merged single);
      trimmed = (rw cut.front (front_no_first cut.size merged (merged_no_first (map plain t))), eqb-false _ 47 cut.last);
      short = (some, few);
    }
