-- A line's first word, by the place of its first space.
use Rattle.std.proofs.Common.{◌≡◌, ◌≢◌, ℕ, zero, suc, ◌+◌, ◌<◌, List, [], ◌∷◌, length, get_or, take, drop, Some, None, All, refl, ap, suc-add, arith}
use Rattle.std.proofs.lemmas.Bool.{eq-eqb, ne_eqb}
use Rattle.std.proofs.lemmas.List.Elements.{All-head, All-tail}
use Rattle.script.specs.Words.{first_word, after_word}

pub at_space : (s : List ℕ) (i : ℕ) → i < length s → get_or s i 0 ≡ 32 → ((k : ℕ) → k < i → get_or s k 0 ≢ 32) → (take i s ≡ first_word s) × (Some (drop (i + 1) s) ≡ after_word s)
at_space [] i inside here before = absurd (omega arith)
at_space (b ∷ bs) zero inside here before = rw (eq-eqb b 32 here) (refl, refl)
at_space (b ∷ bs) (suc i) inside here before =
    let later = at_space bs i (omega arith) here (λ k below. before (suc k) (omega arith)) in
    rw (ne_eqb b 32 (before 0 (omega arith)), suc-add) (ap (λ l. b ∷ l) later.0, later.1)

pub no_space : (s : List ℕ) → All (λ b. b ≢ 32) s → (s ≡ first_word s) × (None ≡ after_word s)
no_space [] none = (refl, refl)
no_space (b ∷ bs) none =
    let later = no_space bs (All-tail (λ b. b ≢ 32) b bs none) in
    rw (ne_eqb b 32 (All-head (λ b. b ≢ 32) b bs none)) (ap (λ l. b ∷ l) later.0, later.1)
