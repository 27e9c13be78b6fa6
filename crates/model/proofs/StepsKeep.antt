-- Every step that is granted keeps the invariant.
use Rattle.std.proofs.Common.{◌≡◌, ℕ, zero, suc, ◌<◌, ◌≤◌, Bool, true, false, cond, not, ◌&&◌, T, eqb, ltb, ◌≢◌, ◌⊎◌, [], ◌∷◌, sym, refl, ap, ◌∙◌, subst, inl, inr, arith, ltb-false, ltb-true, eq-eqb, eqb-true, Some}
use Rattle.std.proofs.lemmas.Bool.{and_parts, cases_eq, cond_both}
use Rattle.model.specs.declared.Colour.TheVariants.{Grey, White}
use Rattle.model.specs.declared.Phase.{Phase}
use Rattle.model.specs.declared.Phase.TheVariants.{Arming, Cleaning, Normal, Parting, Repeat, Scanning, Sweeping, Tracing}
use Rattle.model.specs.Book.{Book}
use Rattle.model.specs.Cycle.{all_owe, clean_on, cleaned, cleared, handshake, must_wait, nod_or, onward, owes_as, owing, round_end, scanned, step_from, sweep_on, swept, trace_on, traced}
use Rattle.model.specs.Machine.{Card, State, among, at_phase, colour, in_phase, is_grey, is_parked, is_running, is_white}
use Rattle.model.specs.Runs.{next, standing}
use Rattle.model.proofs.CardVisit.{clean_keeps}
use Rattle.model.proofs.Colours.{grey_is, grey_not, white_is, white_not}
use Rattle.model.proofs.GreyingKeeps.{Repeats, stays, turns}
use Rattle.model.proofs.Invariant.{Inv, Spared}
use Rattle.model.proofs.JobCallsKeep.{parked_open}
use Rattle.model.proofs.JobRowsKeep.{nod_keeps}
use Rattle.model.proofs.PhaseMoves.{NoneOwe, clean_next, commit_keeps, no_owes, repeat_next, round_next, sound_from, to_normal, to_parting, to_scanning, to_sweeping, to_tracing, trace_next}
use Rattle.model.proofs.SweepVisit.{standing_same, sweep_keeps}
use Rattle.model.proofs.TableLaws.{first_passes, upd_same}
use Rattle.model.proofs.TraceVisit.{scan_keeps}

pub phase_scanned : (s : State) → (scanned s).phase ≡ Repeat
unfolding scanned
phase_scanned s = refl

-- a step that need not wait and finds no parked job owing moves on, and then no running job owes either
not_waiting : (s : State) → T (among (Arming ∷ Scanning ∷ Parting ∷ []) s.phase) → not (must_wait s) ≡ true →
    owing is_parked s ≡ 0 → owing is_running s ≡ 0
not_waiting s h w z = go (among (Arming ∷ Scanning ∷ Parting ∷ []) s.phase) (eqb (owing is_parked s) 0)
    (eqb (owing is_running s) 0) refl h (eq-eqb _ 0 z) w
  where
    go : (a p r : Bool) → eqb (owing is_running s) 0 ≡ r → T a → p ≡ true → not (a && (p && not r)) ≡ true →
        owing is_running s ≡ 0
    go true true true e t q w = eqb-true _ 0 e
    go true true false e t q w = cc
    go true false r e t q w = cc
    go false p r e t q w = absurd t

-- after a visit the cursor moves on, or the round ends
pub trace_on_cases : (P : State → Type 0) (s : State) → (s.cursor < s.size → P (onward s)) →
    (s.size ≤ s.cursor → P (round_end s)) → P (trace_on s)
trace_on_cases P s on off = cond_both (ltb s.cursor s.size) (onward s) (round_end s) P (λ q. on (ltb-true _ _ q))
    (λ q. off (ltb-false _ _ q))

pub commit_end : (P : State → Type 0) (s : State) → s.phase ≡ Tracing → P (at_phase s Cleaning 1 s.rounds) → P (round_end s)
commit_end P s e h = subst (λ (p : Phase). P (cond (in_phase Tracing p) (at_phase s Cleaning 1 s.rounds)
    (at_phase s Tracing 1 (suc s.rounds)))) (sym e) h

pub repeat_end : (P : State → Type 0) (s : State) → s.phase ≡ Repeat → P (at_phase s Tracing 1 (suc s.rounds)) →
    P (round_end s)
repeat_end P s e h = subst (λ (p : Phase). P (cond (in_phase Tracing p) (at_phase s Cleaning 1 s.rounds)
    (at_phase s Tracing 1 (suc s.rounds)))) (sym e) h

module _ (s : State) (b : Book) (place : ℕ → ℕ) (inv : Inv s b place) where
  shake : (next : State) → T (among (Arming ∷ Scanning ∷ Parting ∷ []) s.phase) → not (must_wait s) ≡ true →
      (NoneOwe s → Inv next b place) → Inv (handshake s next) b place
  shake next t w h = go (owing is_parked s) refl
    where
      go : (k : ℕ) → owing is_parked s ≡ k → Inv (nod_or k s next) b place
      go zero q = h (no_owes s b place inv q (not_waiting s t w q))
      go (suc k) q = nod_keeps s b place (suc k)
          (parked_open _ (and_parts _ _ (subst (λ (m : ℕ). owes_as is_parked s m ≡ true) q
          (first_passes (owes_as is_parked s) 1 16 (λ z. omega arith)))).0) inv

  onward_keeps : (x : State) (q : Phase) → x.phase ≡ q → Inv (at_phase x q (suc x.cursor) x.rounds) b place →
      Inv (onward x) b place
  onward_keeps x q e h = subst (λ (p : Phase). Inv (at_phase x p (suc x.cursor) x.rounds) b place) (sym e) h

  -- after a visit in REPEAT
  repeat_on : (x : State) → Inv x b place → x.phase ≡ Repeat → Inv (trace_on x) b place
  repeat_on x h e = trace_on_cases (λ y. Inv y b place) x
      (λ q. onward_keeps x Repeat e (repeat_next x b place h e (suc x.cursor) x.rounds))
      (λ q. repeat_end (λ y. Inv y b place) x e (round_next x b place h e (suc x.rounds)))

  -- after a visit in TRACING of a cell that is not grey
  tracing_on : s.phase ≡ Tracing → colour (s.cell s.cursor) ≢ Some Grey → Inv (trace_on s) b place
  tracing_on e n = trace_on_cases (λ y. Inv y b place) s
      (λ q. onward_keeps s Tracing e (trace_next s b place inv e s.rounds n))
      (λ q. commit_end (λ y. Inv y b place) s e
      (commit_keeps s b place inv e s.rounds (λ d z. no_grey d z q (cases_eq d s.cursor))))
    where
      no_grey : (d : ℕ) → colour (s.cell d) ≡ Some Grey → s.size ≤ s.cursor → (d ≡ s.cursor) ⊎ (d ≡ s.cursor → ⊥) → ⊥
      no_grey d z big (inl q) = n (ap (λ (m : ℕ). colour (s.cell m)) (sym q) ∙ z)
      no_grey d z big (inr q) = let h = inv.heap.inside d (λ w. cc) in (sound_from s b place inv Tracing e).heap.colours d
          (omega arith) z

  trace_step_keeps : Repeats s.phase Repeat → ((d : ℕ) → Spared s.phase s.cursor d) →
      (colour (s.cell s.cursor) ≢ Some Grey → Inv (trace_on s) b place) → Inv (trace_on (traced s)) b place
  trace_step_keeps rep spare other = cond_both (is_grey (s.cell s.cursor)) (scanned s) s (λ x. Inv (trace_on x) b place)
      (λ e. repeat_on (scanned s) (scan_keeps s b place inv rep spare (grey_is _ e)) (phase_scanned s))
      (λ e. other (grey_not _ e))

  clean_step_keeps : s.phase ≡ Cleaning → Inv (clean_on (cleaned s)) b place
  clean_step_keeps e = cond_both (is_white (s.cell (s.card s.cursor).record_at)) (cleared s) s
      (λ x. Inv (clean_on x) b place)
      (λ q. go (cleared s) (clean_keeps s b place inv e (white_is _ q)) e
      (λ n. absurd (n (ap (λ (y : Card). y.record_at) (upd_same s.card s.cursor _)))))
      (λ q. go s inv e (λ n. white_not _ q))
    where
      go : (x : State) → Inv x b place → x.phase ≡ Cleaning →
          ((x.card x.cursor).record_at ≢ 0 → colour (x.cell (x.card x.cursor).record_at) ≢ Some White) →
          Inv (clean_on x) b place
      go x h e is_clean = cond_both (ltb x.cursor 512) (onward x) (at_phase (all_owe x) Parting 0 x.rounds)
          (λ y. Inv y b place)
          (λ q. onward_keeps x Cleaning e (clean_next x b place h e x.rounds is_clean))
          (λ q. let big = ltb-false x.cursor 512 q in to_parting (at_phase x Cleaning (suc x.cursor) x.rounds) b place
          (clean_next x b place h e x.rounds is_clean) refl x.rounds (omega arith))

  sweep_step_keeps : s.phase ≡ Sweeping → Inv (sweep_on (swept s)) b (standing place (sweep_on (swept s)))
  sweep_step_keeps e = cond_both (ltb s.cursor s.size) (onward (swept s)) (at_phase (swept s) Normal 0 s.rounds)
      (λ y. Inv y b (standing place y))
      (λ q. subst (λ (p : Phase). Inv (at_phase (swept s) p (suc s.cursor) s.rounds) b (standing place (swept s)))
      (sym e) one)
      (λ q. let big = ltb-false s.cursor s.size q in to_normal (at_phase (swept s) Sweeping (suc s.cursor) s.rounds) b
      (standing place (swept s)) one refl s.rounds (omega arith))
    where
      one : Inv (at_phase (swept s) Sweeping (suc s.cursor) s.rounds) b (standing place (swept s))
      one = sweep_keeps s b place s.rounds (sound_from s b place inv Sweeping e)

  -- a step outside SWEEPING frees nothing, so every record keeps its place
  pub step_keeps : (p : Phase) → s.phase ≡ p → not (must_wait s) ≡ true → Inv (step_from p s) b (standing place (step_from p s))
  step_keeps Normal e w = standing_same _ b place inv
  step_keeps Arming e w = standing_same _ b place (shake _ (waits Arming e tt) w (to_scanning s b place inv e s.rounds))
    where
      waits : (p : Phase) → s.phase ≡ p → T (among (Arming ∷ Scanning ∷ Parting ∷ []) p) →
          T (among (Arming ∷ Scanning ∷ Parting ∷ []) s.phase)
      waits p e t = subst (λ (q : Phase). T (among (Arming ∷ Scanning ∷ Parting ∷ []) q)) (sym e) t
  step_keeps Scanning e w = standing_same _ b place
      (shake _ (subst (λ (q : Phase). T (among (Arming ∷ Scanning ∷ Parting ∷ []) q)) (sym e) tt) w
      (to_tracing s b place inv e 1))
  step_keeps Tracing e w = standing_same _ b place
      (trace_step_keeps (subst (λ (p : Phase). Repeats p Repeat) (sym e) turns)
      (λ d. subst (λ (p : Phase). Spared p s.cursor d) (sym e) tt) (tracing_on e))
  step_keeps Repeat e w = standing_same _ b place
      (trace_step_keeps (subst (λ (p : Phase). Repeats p Repeat) (sym e) stays)
      (λ d. subst (λ (p : Phase). Spared p s.cursor d) (sym e) tt) (λ n. repeat_on s inv e))
  step_keeps Cleaning e w = standing_same _ b place (clean_step_keeps e)
  step_keeps Parting e w = standing_same _ b place
      (shake _ (subst (λ (q : Phase). T (among (Arming ∷ Scanning ∷ Parting ∷ []) q)) (sym e) tt) w
      (to_sweeping s b place inv e s.rounds))
  step_keeps Sweeping e w = sweep_step_keeps e
