-- Arguments by phase, said once for each set of phases.
use Rattle.std.proofs.Common.{◌≡◌, true, T, refl}
use Rattle.model.specs.declared.Phase.{Phase}
use Rattle.model.specs.declared.Phase.TheVariants.{Arming, Cleaning, Normal, Parting, Repeat, Scanning, Sweeping, Tracing}
use Rattle.model.specs.Machine.{in_phase, is_tracing}
use Rattle.model.proofs.Invariant.{Greying, Marking}

pub phase_is : (q p : Phase) → in_phase q p ≡ true → p ≡ q
phase_is Normal Normal e = refl
phase_is Arming Arming e = refl
phase_is Scanning Scanning e = refl
phase_is Tracing Tracing e = refl
phase_is Repeat Repeat e = refl
phase_is Cleaning Cleaning e = refl
phase_is Parting Parting e = refl
phase_is Sweeping Sweeping e = refl
phase_is _ _ e = cc

-- what holds in each phase in which calls grey records
pub greying_cases : (P : Phase → Type 0) → P Arming → P Scanning → P Tracing → P Repeat → (p : Phase) → Greying p → P p
greying_cases P a s t r Arming g = a
greying_cases P a s t r Scanning g = s
greying_cases P a s t r Tracing g = t
greying_cases P a s t r Repeat g = r
greying_cases P a s t r _ g = absurd g

-- ... in each phase of marking
pub marking_cases : (P : Phase → Type 0) → P Scanning → P Tracing → P Repeat → (p : Phase) → Marking p → P p
marking_cases P s t r Scanning m = s
marking_cases P s t r Tracing m = t
marking_cases P s t r Repeat m = r
marking_cases P s t r _ m = absurd m

-- ... and in each phase of tracing
pub tracing_cases : (P : Phase → Type 0) → P Tracing → P Repeat → (p : Phase) → T (is_tracing p) → P p
tracing_cases P t r Tracing m = t
tracing_cases P t r Repeat m = r
tracing_cases P t r _ m = absurd m
