-- A cycle has one commit: after it the phase is CLEANING, PARTING or SWEEPING until NORMAL ends the cycle.
use Rattle.std.proofs.Common.{◌≡◌, ℕ, zero, suc, T, ltb, ◌≢◌, List, [], ◌∷◌, sym, refl, subst}
use Rattle.std.proofs.lemmas.Bool.{cond_both}
use Rattle.model.specs.declared.Phase.{Phase}
use Rattle.model.specs.declared.Phase.TheVariants.{Cleaning, Normal, Parting, Sweeping}
use Rattle.model.specs.Calls.{Call, begin, by, open_job, step}
use Rattle.model.specs.Cycle.{all_owe, clean_on, cleared, nod_or, onward, owing, step_from, swept}
use Rattle.model.specs.Machine.{State, among, at_phase, is_parked, is_white}
use Rattle.model.specs.Promise.{InCycle}
use Rattle.model.specs.Runs.{Commits, Picks, Run, Through, World, more, next, now}
use Rattle.model.specs.Tables.{checks, effect}
use Rattle.model.proofs.CallsByEffect.{effect_of}
use Rattle.model.proofs.Granted.{Passed, next_cases}
use Rattle.model.proofs.GreyingKeeps.{Repeats, stays, turns}
use Rattle.model.proofs.Invariant.{Sound}
use Rattle.model.proofs.PhaseCases.{phase_is}
use Rattle.model.proofs.RunsKeep.{next_sound, run_sound, through_sound}
use Rattle.model.proofs.Weight.{steady_job, steady_nod}

abbrev late : List Phase
late = Cleaning ∷ Parting ∷ Sweeping ∷ []

abbrev late_or_normal : List Phase
late_or_normal = Normal ∷ late

repeats_late : {p q : Phase} → Repeats p q → T (among late p) → T (among late_or_normal q)
repeats_late {p} stays t = go p t
  where
    go : (p : Phase) → T (among late p) → T (among late_or_normal p)
    go Normal t = tt
    go _ t = t
repeats_late turns t = absurd t

abbrev LateOrNormal : State → Type 0
LateOrNormal s = T (among late_or_normal s.phase)

step_late : (s : State) (p : Phase) → s.phase ≡ p → T (among late p) → LateOrNormal (step_from p s)
step_late s Cleaning e t = cond_both (is_white (s.cell (s.card s.cursor).record_at)) (cleared s) s
    (λ x. LateOrNormal (clean_on x)) (λ q. go (cleared s) e) (λ q. go s e)
  where
    go : (x : State) → x.phase ≡ Cleaning → LateOrNormal (clean_on x)
    go x e = cond_both (ltb x.cursor 512) (onward x) (at_phase (all_owe x) Parting 0 x.rounds) LateOrNormal
        (λ q. subst (λ (p : Phase). T (among late_or_normal p)) (sym e) tt) (λ q. tt)
step_late s Parting e t = go (owing is_parked s)
  where
    go : (k : ℕ) → LateOrNormal (nod_or k s (at_phase s Sweeping 1 s.rounds))
    go zero = tt
    go (suc k) = repeats_late (steady_nod s (suc k)).repeats (subst (λ (p : Phase). T (among late p)) (sym e) tt)
step_late s Sweeping e t = cond_both (ltb s.cursor s.size) (onward (swept s)) (at_phase (swept s) Normal 0 s.rounds)
    LateOrNormal (λ q. subst (λ (p : Phase). T (among late_or_normal p)) (sym e) tt) (λ q. tt)
step_late s _ e t = absurd t

call_late : (x : World) (pick : ℕ) → Sound x → T (among late x.state.phase) → (c : Call) → Passed (checks x.state c) →
    LateOrNormal (effect x.state c pick).after
call_late x pick inv t (by j a) p = repeats_late
    (steady_job x.state x.book x.place pick inv j a (effect_of x.state j pick a)).repeats t
call_late x pick inv t open_job p = repeats_late {p = x.state.phase} stays t
call_late x pick inv t begin p = absurd (subst (λ (q : Phase). T (among late q)) (phase_is Normal _ p.0) t)
call_late x pick inv t step p = step_late x.state x.state.phase refl t

-- what is late and not NORMAL is late
still_late : (p : Phase) → T (among late_or_normal p) → p ≢ Normal → T (among late p)
still_late Normal t n = absurd (n refl)
still_late _ t n = t

through_late : {x y : World} → Through InCycle x y → Sound x → T (among late x.state.phase) →
    T (among late y.state.phase)
through_late (now n) inv t = t
through_late (more {y = y} l c pick right n) inv t = still_late _
    (next_cases y c pick (λ z. LateOrNormal z.state) (repeats_late {p = y.state.phase} stays (through_late l inv t))
    (call_late y pick (through_sound l inv) (through_late l inv t) c)) n

pub commits_once : (x y : World) → Run x → (pick later : ℕ) → Picks x.state pick → Commits x step pick →
    Through InCycle (next x step pick) y → Commits y step later → ⊥
commits_once x y run pick later right cm cycle cm' = subst (λ (p : Phase). T (among late p)) cm'.before
    (through_late cycle (next_sound x pick (run_sound run) right step)
    (subst (λ (p : Phase). T (among late p)) (sym cm.after) tt))
