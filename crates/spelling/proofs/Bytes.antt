-- One byte: when a text may hold it, and what it becomes.
use Rattle.std.proofs.Common.{◌≡◌, ℕ, ◌+◌, ◌≤◌, true, leb, refl, ⊎_elim, arith}
use Rattle.std.proofs.lemmas.Bool.{and_from, le-leb, ne_eqb, lt-ltb, le-ltb, cases_lt}
use Rattle.spelling.specs.Settling.{allowed, plain}

pub is_allowed : (b : ℕ) → 32 ≤ b → b ≤ 126 → allowed b ≡ true
is_allowed b low high = and_from (leb 32 b) (leb b 126) (le-leb 32 b low) (le-leb b 126 high)

pub capital_plain : (b : ℕ) → 65 ≤ b → b ≤ 90 → plain b ≡ b + 32
capital_plain b low high = rw (le-ltb b 65 low, lt-ltb b 91 (omega arith), ne_eqb (b + 32) 92 (λ e. omega arith)) refl

-- a byte that is no capital and no backslash stays
pub plain_stays : (b : ℕ) → (65 ≤ b → b ≤ 90 → ⊥) → (b ≡ 92 → ⊥) → plain b ≡ b
plain_stays b small straight =
    ⊎_elim
    (λ lt. rw (lt-ltb b 65 lt, ne_eqb b 92 straight) refl)
    (λ ge. let past : 91 ≤ b = ⊎_elim (λ lt. absurd (small ge (omega arith))) (λ le. le) (cases_lt b 91) in rw (le-ltb b 65 ge, le-ltb b 91 past, ne_eqb b 92 straight) refl)
    (cases_lt b 65)
