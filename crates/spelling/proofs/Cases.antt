-- Settling, case by case: the first test that fails decides.
use Rattle.std.proofs.Common.{◌≡◌, ℕ, ◌≤◌, Bool, true, false, leb, List, length, Ok, Result, refl}
use Rattle.std.proofs.lemmas.Bool.{leb-true, le-leb}
use Rattle.refusal.specs.declared.Reason.{Reason}
use Rattle.refusal.specs.declared.Reason.TheVariants.{TextTooLong, ByteNotAllowed, SettledEmpty, SettledTooLong}
use Rattle.std.specs.List.{list_all}
use Rattle.spelling.specs.Settling.{allowed, ask, text_limits, length_limits, spelled, settle}

-- a test that was passed
ask_ok : {X : Type 0} (passed : Bool) (reason : Reason) (next : Result X Reason) (x : X) → ask passed reason next ≡ Ok x → (passed ≡ true) × (next ≡ Ok x)
ask_ok true reason next x e = (refl, e)
ask_ok false reason next x e = absurd cc

-- what the limits on the text, and on the length of what is left of it, let pass
passed_both : (p q : Bool) (r s : Reason) → ◌≡◌ {A = Result (Unit {0}) Reason} (Ok tt) (ask p r (ask q s (Ok tt))) → (p ≡ true) × (q ≡ true)
passed_both true true r s h = (refl, refl)
passed_both true false r s h = absurd cc
passed_both false q r s h = absurd cc

pub text_passes : (t : List ℕ) → ◌≡◌ {A = Result (Unit {0}) Reason} (Ok tt) (text_limits t (Ok tt)) → (length t ≤ 120) × (list_all allowed t ≡ true)
text_passes t h =
    let both = passed_both (leb (length t) 120) (list_all allowed t) TextTooLong ByteNotAllowed h in
    (leb-true (length t) 120 both.0, both.1)

pub length_passes : (n : ℕ) → ◌≡◌ {A = Result (Unit {0}) Reason} (Ok tt) (length_limits n (Ok tt)) → (1 ≤ n) × (n ≤ 40)
length_passes n h =
    let both = passed_both (leb 1 n) (leb n 40) SettledEmpty SettledTooLong h in
    (leb-true 1 n both.0, leb-true n 40 both.1)

-- what a grant says of its text
pub record Granted (t s : List ℕ) : Type 0 where
  pub good : list_all allowed t ≡ true
  pub is_spelled : s ≡ spelled t
  pub some : 1 ≤ length (spelled t)
  pub few : length (spelled t) ≤ 40

pub granted : (t s : List ℕ) → settle t ≡ Ok s → Granted t s
unfolding settle
granted t s e =
    let n = length (spelled t) in
    let given : Result (List ℕ) Reason = Ok (spelled t) in
    let short = ask_ok (leb (length t) 120) TextTooLong (ask (list_all allowed t) ByteNotAllowed (length_limits n given)) s e in
    let good = ask_ok (list_all allowed t) ByteNotAllowed (length_limits n given) s short.1 in
    let some = ask_ok (leb 1 n) SettledEmpty (ask (leb n 40) SettledTooLong given) s good.1 in
    let few = ask_ok (leb n 40) SettledTooLong given s some.1 in
    let same : given ≡ Ok s = few.1 in
    record { good = good.0; is_spelled = cc; some = leb-true 1 n some.0; few = leb-true n 40 few.0 }

pub grants : (t : List ℕ) → length t ≤ 120 → list_all allowed t ≡ true → 1 ≤ length (spelled t) → length (spelled t) ≤ 40 → settle t ≡ Ok (spelled t)
unfolding settle
grants t short good some few = rw (le-leb (length t) 120 short, good, le-leb 1 (length (spelled t)) some, le-leb (length (spelled t)) 40 few) refl
