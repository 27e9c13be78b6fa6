-- The commit comes within N × (2N + 1) trace steps. While tracing, each round but the last makes the heap lighter by at
-- least 1, and it weighs 2N at most.
use Rattle.std.proofs.Common.{◌≡◌, ℕ, zero, suc, ◌+◌, ◌*◌, ◌<◌, ◌≤◌, cond, T, ltb, sym, refl, ap, subst, mul-le-mul_right, arith, Some, is_ok, IsTrue}
use Rattle.std.specs.Bool.{passes}
use Rattle.std.proofs.lemmas.Bool.{cond_both}
use Rattle.model.specs.declared.Colour.TheVariants.{Black, Grey}
use Rattle.model.specs.declared.Phase.{Phase}
use Rattle.model.specs.declared.Phase.TheVariants.{Arming, Cleaning, Normal, Parting, Repeat, Scanning, Sweeping, Tracing}
use Rattle.model.specs.Calls.{Call, begin, by, open_job, step}
use Rattle.model.specs.Cycle.{all_owe, clean_on, cleared, grey_all, handshake, nod_or, nodded, onward, owing, scanned, step_from, swept, trace_on}
use Rattle.model.specs.Machine.{Cell, State, at_phase, colour, is_grey, is_parked, is_tracing, is_white, painted, slots, upd}
use Rattle.model.specs.Promise.{trace_limit}
use Rattle.model.specs.Runs.{Run, World, count_call, next, next_by, start, called, trace_steps}
use Rattle.model.specs.Tables.{checks, effect, outcome, vacant_job}
use Rattle.model.proofs.CallsByEffect.{effect_of}
use Rattle.model.proofs.Colours.{grey_is}
use Rattle.model.proofs.Granted.{Passed, decided, not_zero}
use Rattle.model.proofs.GreyingKeeps.{Greyer, Repeats, grey_list, stays, turns, used_greyer}
use Rattle.model.proofs.Invariant.{Sound}
use Rattle.model.proofs.RunsKeep.{run_sound}
use Rattle.model.proofs.StepsKeep.{commit_end, phase_scanned, repeat_end, trace_on_cases}
use Rattle.model.proofs.TableLaws.{upd_elim, upd_same}
use Rattle.model.proofs.TraceVisit.{black_colour}
use Rattle.model.proofs.Weight.{Lighter, Steady, greyer_weight, steady_job, steady_nod, steady_rows, total, total_le, total_lt, total_most, weight}

-- n cells, round r, cursor at cur, t trace steps so far, heap of weight w
abbrev Bounded : Phase → ℕ → ℕ → ℕ → ℕ → ℕ → Type 0
Bounded Arming n r cur t w = (t ≡ 0) × (1 ≤ n)
Bounded Scanning n r cur t w = (t ≡ 0) × (1 ≤ n)
Bounded Tracing n r cur t w = (1 ≤ cur) × (cur ≤ n) × (t + n + 1 ≡ r * n + cur) × (w + r ≤ 2 * n + 1)
Bounded Repeat n r cur t w = (1 ≤ cur) × (cur ≤ n) × (t + n + 1 ≡ r * n + cur) × (w + r ≤ 2 * n)
Bounded _ n r cur t w = t ≤ trace_limit n

abbrev InBounds : State → ℕ → Type 0
InBounds s t = Bounded s.phase s.size s.rounds s.cursor t (total s.cell s.size)

below_limit : (n r cur t : ℕ) → cur ≤ n → t + n + 1 ≡ r * n + cur → r ≤ 2 * n + 1 → t < trace_limit n
below_limit n r cur t hi e small = let q = mul-le-mul_right n small in omega arith

bounded : (p : Phase) (n r cur t w : ℕ) → Bounded p n r cur t w → (t ≤ trace_limit n) × (T (is_tracing p) → t < trace_limit n)
bounded Arming n r cur t w b = (omega arith, λ z. absurd z)
bounded Scanning n r cur t w b = (omega arith, λ z. absurd z)
bounded Tracing n r cur t w b = let q = below_limit n r cur t b.1 b.2 (omega arith) in (omega arith, λ z. q)
bounded Repeat n r cur t w b = let q = below_limit n r cur t b.1 b.2 (omega arith) in (omega arith, λ z. q)
bounded _ n r cur t w b = (b, λ z. absurd z)

-- a call of a job
lighter_bounded : (p : Phase) (n r cur t w w' : ℕ) → (T (is_tracing p) → w' ≤ w) → Bounded p n r cur t w → Bounded p n r cur t w'
lighter_bounded Tracing n r cur t w w' le b = let q = le tt in (b.0, b.1, b.2, omega arith)
lighter_bounded Repeat n r cur t w w' le b = let q = le tt in (b.0, b.1, b.2, omega arith)
lighter_bounded _ n r cur t w w' le b = b

repeats_bounded : {p q : Phase} (n r cur t w w' : ℕ) → Repeats p q → (T (is_tracing p) → w' ≤ w) →
    (p ≡ Tracing → q ≡ Repeat → w' < w) → Bounded p n r cur t w → Bounded q n r cur t w'
repeats_bounded {p} n r cur t w w' stays le lt b = lighter_bounded p n r cur t w w' le b
repeats_bounded n r cur t w w' turns le lt b = let q = lt refl refl in (b.0, b.1, b.2, omega arith)

steady_bounds : (s s' : State) (t : ℕ) → Steady s s' → InBounds s t → InBounds s' t
steady_bounds s s' t l b = rw (l.size_is, l.rounds_is, l.cursor_is)
    (repeats_bounded s.size s.rounds s.cursor t (total s.cell s.size) (total s'.cell s.size) l.repeats
    (λ z. total_le s.cell s'.cell s.size (l.lighter z)) l.falls b)

module _ (s : State) (t : ℕ) where
  -- a visit of a grey cell makes the heap lighter
  scan_lighter : colour (s.cell s.cursor) ≡ Some Grey → 1 ≤ s.cursor → s.cursor ≤ s.size →
      total (scanned s).cell s.size < total s.cell s.size
  unfolding scanned
  scan_lighter a lo hi = total_lt s.cell (upd g s.cursor (painted Black (g s.cursor))) s.size s.cursor le lo hi
      less
    where
      g : ℕ → Cell
      g = grey_all s.cell (slots (s.cell s.cursor))

      greyer : (d : ℕ) → Greyer (s.cell d) (g d)
      greyer = grey_list s.cell (slots (s.cell s.cursor))

      is_black : colour (painted Black (g s.cursor)) ≡ Some Black
      is_black = black_colour (g s.cursor) (used_greyer (greyer s.cursor) (λ z. cc))

      le : Lighter s.cell (upd g s.cursor (painted Black (g s.cursor)))
      le d = upd_elim (λ y. weight (colour y) ≤ weight (colour (s.cell d))) g s.cursor d (painted Black (g s.cursor))
          (λ e. let q = ap weight is_black in omega arith) (λ e. greyer_weight (s.cell d) (g d) (greyer d))

      less : weight (colour (upd g s.cursor (painted Black (g s.cursor)) s.cursor)) < weight
          (colour (s.cell s.cursor))
      less = let u = ap (λ (x : Cell). weight (colour x)) (upd_same g s.cursor (painted Black (g s.cursor))) in let v =
          ap weight is_black in let w = ap weight a in omega arith

  scanned_bounds : colour (s.cell s.cursor) ≡ Some Grey → 1 ≤ s.cursor → s.cursor ≤ s.size →
      t + s.size + 1 ≡ s.rounds * s.size + s.cursor → total s.cell s.size + s.rounds ≤ 2 * s.size + 1 →
      Bounded Repeat (scanned s).size (scanned s).rounds (scanned s).cursor t (total (scanned s).cell (scanned s).size)
  unfolding scanned
  scanned_bounds a lo hi e small = go (scan_lighter a lo hi)
    where
      go : total (scanned s).cell s.size < total s.cell s.size →
          Bounded Repeat (scanned s).size (scanned s).rounds (scanned s).cursor t (total (scanned s).cell (scanned s).size)
      go less = (lo, hi, e, omega arith)

  at_phase_bounds : (x : State) (p : Phase) → x.phase ≡ p →
      (cur u : ℕ) → Bounded p x.size x.rounds cur u (total x.cell x.size) →
      Bounded x.phase x.size x.rounds cur u (total x.cell x.size)
  at_phase_bounds x p e cur u h = subst (λ (q : Phase). Bounded q x.size x.rounds cur u (total x.cell x.size))
      (sym e) h

  -- after a visit in REPEAT
  repeat_on : (x : State) → x.phase ≡ Repeat → Bounded Repeat x.size x.rounds x.cursor t (total x.cell x.size) →
      InBounds (trace_on x) (suc t)
  repeat_on x e h = trace_on_cases (λ y. InBounds y (suc t)) x
      (λ z. at_phase_bounds x Repeat e (suc x.cursor) (suc t) (omega arith, omega arith, omega arith, h.3))
      (λ z. repeat_end (λ y. InBounds y (suc t)) x e (omega arith, omega arith, omega arith, omega arith))

  -- after a visit in TRACING of a cell that is not grey
  tracing_on : s.phase ≡ Tracing → Bounded Tracing s.size s.rounds s.cursor t (total s.cell s.size) →
      InBounds (trace_on s) (suc t)
  tracing_on e h = trace_on_cases (λ y. InBounds y (suc t)) s
      (λ z. at_phase_bounds s Tracing e (suc s.cursor) (suc t) (omega arith, omega arith, omega arith, h.3))
      (λ z. commit_end (λ y. InBounds y (suc t)) s e
      (below_limit s.size s.rounds s.cursor t h.1 h.2 (omega arith)))

  shake_bounds : (next : State) → InBounds s t → InBounds next t → InBounds (handshake s next) t
  shake_bounds next h n = go (owing is_parked s)
    where
      go : (k : ℕ) → InBounds (nod_or k s next) t
      go zero = n
      go (suc k) = steady_bounds s (nodded s (suc k)) t (steady_nod s (suc k)) h

  clean_bounds : (x : State) → x.phase ≡ Cleaning → t ≤ trace_limit x.size → InBounds (clean_on x) t
  clean_bounds x e h = cond_both (ltb x.cursor 512) (onward x) (at_phase (all_owe x) Parting 0 x.rounds)
      (λ y. InBounds y t) (λ q. at_phase_bounds x Cleaning e (suc x.cursor) t h) (λ q. h)

  step_bounds : (p : Phase) → s.phase ≡ p → Bounded p s.size s.rounds s.cursor t (total s.cell s.size) →
      InBounds (step_from p s) (cond (is_tracing p) (suc t) t)
  step_bounds Normal e h = at_phase_bounds s Normal e s.cursor t h
  step_bounds Arming e h = shake_bounds (at_phase (all_owe s) Scanning 0 s.rounds) (at_phase_bounds s Arming e s.cursor t h)
      h
  step_bounds Scanning e h = shake_bounds (at_phase s Tracing 1 1) (at_phase_bounds s Scanning e s.cursor t h)
      (let m = total_most s.cell s.size in (omega arith, h.1, omega arith, omega arith))
  step_bounds Tracing e h = cond_both (is_grey (s.cell s.cursor)) (scanned s) s (λ x. InBounds (trace_on x) (suc t))
      (λ a. repeat_on (scanned s) (phase_scanned s) (scanned_bounds (grey_is _ a) h.0 h.1 h.2 h.3))
      (λ a. tracing_on e h)
  step_bounds Repeat e h = cond_both (is_grey (s.cell s.cursor)) (scanned s) s (λ x. InBounds (trace_on x) (suc t))
      (λ a. repeat_on (scanned s) (phase_scanned s) (scanned_bounds (grey_is _ a) h.0 h.1 h.2 (omega arith)))
      (λ a. repeat_on s e h)
  step_bounds Cleaning e h = cond_both (is_white (s.cell (s.card s.cursor).record_at)) (cleared s) s
      (λ x. InBounds (clean_on x) t) (λ q. clean_bounds (cleared s) e h) (λ q. clean_bounds s e h)
  step_bounds Parting e h = shake_bounds (at_phase s Sweeping 1 s.rounds) (at_phase_bounds s Parting e s.cursor t h) h
  step_bounds Sweeping e h = cond_both (ltb s.cursor s.size) (onward (swept s)) (at_phase (swept s) Normal 0 s.rounds)
      (λ y. InBounds y t) (λ q. at_phase_bounds (swept s) Sweeping e (suc s.cursor) t h) (λ q. h)

call_bounds : (x : World) (t pick : ℕ) → Sound x → InBounds x.state t → (c : Call) → Passed (checks x.state c) →
    InBounds (effect x.state c pick).after (count_call c x.state.phase t)
call_bounds x t pick inv h (by j a) p = steady_bounds x.state _ t
    (steady_job x.state x.book x.place pick inv j a (effect_of x.state j pick a)) h
call_bounds x t pick inv h open_job p = steady_bounds x.state (effect x.state open_job pick).after t
    (steady_rows x.state (effect x.state open_job pick).after.job (vacant_job x.state)) h
call_bounds x t pick inv h begin p = let z = not_zero x.state.size p.1.0 in (refl, omega arith)
call_bounds x t pick inv h step p = step_bounds x.state t x.state.phase refl h

run_bounds : {x : World} (run : Run x) → InBounds x.state (trace_steps run)
unfolding next outcome trace_steps
run_bounds (start n w small) = omega arith
run_bounds (called {x = y} run c pick right) = decided
    (λ o. InBounds (next_by y c pick o).state
    (cond (is_ok o) (count_call c y.state.phase (trace_steps run)) (trace_steps run))) (checks y.state c)
    (effect y.state c pick)
    (λ e. run_bounds run) (call_bounds y (trace_steps run) pick (run_sound run) (run_bounds run) c)

pub commit_bound : (x : World) (run : Run x) →
    (trace_steps run ≤ trace_limit x.state.size) × (IsTrue (is_tracing x.state.phase) →
    trace_steps run < trace_limit x.state.size)
commit_bound x run = let b = bounded x.state.phase x.state.size x.state.rounds x.state.cursor (trace_steps run) _ (run_bounds run) in
    (b.0, λ e. b.1 (passes _ e))
