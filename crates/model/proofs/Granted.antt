-- A call is refused, and nothing changes, or all its conditions hold and it is granted: every argument about calls
-- starts here.
use Rattle.std.proofs.Common.{◌≡◌, ℕ, ◌≤◌, Bool, true, false, not, ◌||◌, eqb, ◌≢◌, List, [], ◌∷◌, length, Ok, Err, Result, refl, is_ok, arith}
use Rattle.std.proofs.lemmas.Bool.{cond_both}
use Rattle.refusal.specs.declared.Refusal.{Refusal}
use Rattle.model.specs.Calls.{Call, Check, Grant, decide}
use Rattle.model.specs.Machine.{Cell, slots}
use Rattle.model.specs.Runs.{Granted, World, granted, next, next_by}
use Rattle.model.specs.Tables.{checks, effect, hand_ok, met, outcome, slot_ok}

abbrev pub Passed : List Check → Type 0
Passed [] = Unit {0}
Passed (c ∷ cs) = (c.holds ≡ true) × Passed cs

pub decided : (P : Result Grant Refusal → Type 0) (cs : List Check) (g : Grant) → ((e : Refusal) → P (Err e)) →
    (Passed cs → P (Ok g)) → P (decide cs g)
decided P [] g refused met = met tt
decided P (c ∷ cs) g refused met = cond_both c.holds (decide cs g) (Err c.otherwise) P
    (λ e. decided P cs g refused (λ p. met (e, p))) (λ e. refused c.otherwise)

-- the world after a call
pub next_cases : (x : World) (c : Call) (pick : ℕ) (P : World → Type 0) → P x →
    (Passed (checks x.state c) → P (granted x c pick (effect x.state c pick))) → P (next x c pick)
unfolding next outcome
next_cases x c pick P refused met = grind arith

-- a call that was granted met its conditions, and the world after it is that of its effect
pub granted_next : (x : World) (c : Call) (pick : ℕ) → Granted x c pick →
    Passed (checks x.state c) × (next x c pick ≡ granted x c pick (effect x.state c pick))
unfolding next outcome
granted_next x c pick = decided (λ o. is_ok o ≡ true →
    Passed (checks x.state c) × (next_by x c pick o ≡ granted x c pick (effect x.state c pick)))
    (checks x.state c) (effect x.state c pick) (λ e q. cc) (λ p q. (p, refl))

-- what the tests of conditions mean
pub hand_range : (h : ℕ) → hand_ok h ≡ true → (1 ≤ h) × (h ≤ 8)
hand_range h e = grind arith

pub slot_range : (x : Cell) (i : ℕ) → slot_ok x i ≡ true → (1 ≤ i) × (i ≤ length (slots x))
slot_range x i e = grind arith

pub not_zero : (n : ℕ) → not (eqb n 0) ≡ true → n ≢ 0
not_zero n e = grind arith

pub or_second : (a b : Bool) → a ≡ false → (a || b) ≡ true → b ≡ true
or_second a b e h = grind arith
