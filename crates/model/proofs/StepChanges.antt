-- What a step may change of kept records, names and marks; and so what any call may change.
use Rattle.std.proofs.Common.{◌≡◌, ℕ, zero, suc, ◌<◌, ◌≤◌, cond, ltb, ◌≢◌, ◌⊎◌, sym, refl, ap, ◌∙◌, subst, inl, inr, arith, ltb-true, Some, None}
use Rattle.std.proofs.lemmas.Bool.{cond_both}
use Rattle.model.specs.declared.Colour.TheVariants.{Black, Grey, White}
use Rattle.model.specs.declared.Phase.{Phase}
use Rattle.model.specs.declared.Phase.TheVariants.{Arming, Cleaning, Normal, Parting, Repeat, Scanning, Sweeping, Tracing}
use Rattle.model.specs.Book.{Book, write}
use Rattle.model.specs.Calls.{Call, begin, by, open_job, step}
use Rattle.model.specs.Cycle.{all_owe, clean_on, cleaned, grey_all, handshake, nod_or, onward, owing, round_end, scanned, step_from, sweep_on, swept, trace_on, traced}
use Rattle.model.specs.Machine.{Cell, State, at, at_phase, colour, is_grey, is_parked, painted, slots, upd}
use Rattle.model.specs.Runs.{Picks, World, given, next}
use Rattle.model.specs.Tables.{checks, effect}
use Rattle.model.proofs.CallChanges.{Changes, Touched, from_marked, job_changes, nod_change, rows_change}
use Rattle.model.proofs.CallsByEffect.{effect_of}
use Rattle.model.proofs.Colours.{free_white, grey_is}
use Rattle.model.proofs.Granted.{Passed, next_cases}
use Rattle.model.proofs.GreyingKeeps.{grey_list, marked_in, unused_greyer, used_greyer}
use Rattle.model.proofs.Invariant.{Inv, Marked, Sound, Spared}
use Rattle.model.proofs.PhaseCases.{phase_is}
use Rattle.model.proofs.SlotsAreLastPut.{new_edge, write_count}
use Rattle.model.proofs.StepsKeep.{commit_end, phase_scanned, repeat_end, trace_on_cases}
use Rattle.model.proofs.SweepVisit.{standing_was}
use Rattle.model.proofs.TableLaws.{upd_elim, upd_other}

module _ (s : State) (b : Book) (place : ℕ → ℕ) (inv : Inv s b place) where
  abbrev Stepped : State → Type 0
  Stepped = Changes step s

  -- a step that leaves cells and cards
  moves_on : (s' : State) → ((d : ℕ) → s'.cell d ≡ s.cell d) → ((k : ℕ) → s'.card k ≡ s.card k) →
      ((d : ℕ) → colour (s.cell d) ≡ Some White → Spared s'.phase s'.cursor d → Spared s.phase s.cursor d) →
      (s'.phase ≢ Cleaning) ⊎ ((s.phase ≡ Tracing) × (s'.phase ≡ Cleaning)) → Stepped s'
  moves_on s' cells cards unspare leads_to = grind arith

  spared_at : (p : Phase) → s.phase ≡ p → ((d : ℕ) → Spared p s.cursor d) → (d : ℕ) → Spared s.phase s.cursor d
  spared_at p e h d = grind arith

  shake_change : (next : State) → Stepped next → Stepped (handshake s next)
  shake_change next h = go (owing is_parked s)
    where
      go : (k : ℕ) → Stepped (nod_or k s next)
      go zero = h
      go (suc k) = nod_change s b place inv step (suc k)

  -- a trace step at a grey cell
  grey_step_change : colour (s.cell s.cursor) ≡ Some Grey → ((d : ℕ) → Spared s.phase s.cursor d) →
      (q : Phase) (cur r : ℕ) → q ≢ Cleaning → Stepped (at_phase (scanned s) q cur r)
  unfolding scanned
  grey_step_change a spare q cur r other = record {
    back = λ d k. inl (record {
      in_use = unused_greyer (grey_list s.cell (slots (s.cell s.cursor)) d) (from d k.in_use);
      spared = λ z. spare d;
    });
    names = inl (λ k l. (record { filled = l.filled; not_white = λ e. absurd (other e) }, refl));
    marks = λ d l. upd_elim (λ y. Marked (colour y) → Marked (colour (s.cell d)) ⊎ Touched s (at_phase (scanned s) q cur r) d) g
        s.cursor d (painted Black (g s.cursor))
        (λ e u. inl (subst (λ (m : ℕ). Marked (colour (s.cell m))) e (subst Marked (sym a) tt)))
        (λ e u. go d (marked_in s.cell (slots (s.cell s.cursor)) d u)) l;
  }
    where
      g : ℕ → Cell
      g = grey_all s.cell (slots (s.cell s.cursor))

      used_g : colour (g s.cursor) ≢ None
      used_g = used_greyer (grey_list s.cell (slots (s.cell s.cursor)) s.cursor) (λ z. cc)

      from : (d : ℕ) → colour (upd g s.cursor (painted Black (g s.cursor)) d) ≢ None → colour (g d) ≢ None
      from d = upd_elim (λ y. colour y ≢ None → colour (g d) ≢ None) g s.cursor d (painted Black (g s.cursor))
          (λ e h z. used_g (ap (λ (m : ℕ). colour (g m)) e ∙ z)) (λ e h. h)

      go : (d : ℕ) → Marked (colour (s.cell d)) ⊎ ((i : ℕ) × (at (slots (s.cell s.cursor)) i ≡ d)) →
          Marked (colour (s.cell d)) ⊎ Touched s (at_phase (scanned s) q cur r) d
      go d (inl h) = inl h
      go d (inr h) = inr (from_marked s.cursor h.0 (subst Marked (sym a) tt) h.1)

  trace_change : ((d : ℕ) → Spared s.phase s.cursor d) → (s.phase ≡ Tracing) ⊎ (s.phase ≡ Repeat) →
      Stepped (trace_on (traced s))
  trace_change spare tracing = cond_both (is_grey (s.cell s.cursor)) (scanned s) s (λ x. Stepped (trace_on x))
      (λ a. trace_on_cases Stepped (scanned s)
      (λ q. grey_step_change (grey_is _ a) spare (scanned s).phase _ _ (λ z. not_cleaning (phase_scanned s) z))
      (λ q. repeat_end Stepped (scanned s) (phase_scanned s) (grey_step_change (grey_is _ a) spare Tracing _ _ (λ z. cc))))
      (λ a. trace_on_cases Stepped s (λ q. moves_on (onward s) (λ d. refl) (λ k. refl) (λ d u v. spare d) (inl (other tracing)))
      (λ q. end tracing))
    where
      not_cleaning : {p : Phase} → p ≡ Repeat → p ≡ Cleaning → ⊥
      not_cleaning a c = cc

      other : (s.phase ≡ Tracing) ⊎ (s.phase ≡ Repeat) → s.phase ≢ Cleaning
      other (inl e) z = cc
      other (inr e) z = cc

      end : (s.phase ≡ Tracing) ⊎ (s.phase ≡ Repeat) → Stepped (round_end s)
      end (inl e) = commit_end Stepped s e (moves_on (at_phase s Cleaning 1 s.rounds) (λ d. refl) (λ k. refl)
          (λ d u v. spare d) (inr (e, refl)))
      end (inr e) = repeat_end Stepped s e (moves_on (at_phase s Tracing 1 (suc s.rounds)) (λ d. refl) (λ k. refl)
          (λ d u v. spare d) (inl (λ z. cc)))

  -- the visit of a card: live cards stay
  clean_change : s.phase ≡ Cleaning → Stepped (clean_on (cleaned s))
  clean_change e = grind arith

  sweep_change : s.phase ≡ Sweeping → Stepped (sweep_on (swept s))
  sweep_change e = grind arith

  step_changes : (p : Phase) → s.phase ≡ p → Stepped (step_from p s)
  step_changes Normal e = rows_change step s s.job s.last_job
  step_changes Arming e = shake_change _ (moves_on (at_phase (all_owe s) Scanning 0 s.rounds) (λ d. refl) (λ k. refl)
      (λ d u v. spared_at Arming e (λ d. tt) d) (inl (λ z. cc)))
  step_changes Scanning e = shake_change _ (moves_on (at_phase s Tracing 1 1) (λ d. refl) (λ k. refl)
      (λ d u v. spared_at Scanning e (λ d. tt) d) (inl (λ z. cc)))
  step_changes Tracing e = trace_change (spared_at Tracing e (λ d. tt)) (inl e)
  step_changes Repeat e = trace_change (spared_at Repeat e (λ d. tt)) (inr e)
  step_changes Cleaning e = clean_change e
  step_changes Parting e = shake_change _ (moves_on (at_phase s Sweeping 1 s.rounds) (λ d. refl) (λ k. refl)
      (λ d u v. absurd (free_white (ap (λ (m : ℕ). colour (s.cell m)) (zero_is d v) ∙ inv.heap.no_zero) u))
      (inl (λ z. cc)))
    where
      zero_is : (d : ℕ) → d < 1 → d ≡ 0
      zero_is d h = omega arith
  step_changes Sweeping e = sweep_change e

  begin_change : s.phase ≡ Normal → Changes begin s (at_phase (all_owe s) Arming 0 0)
  begin_change e = grind arith

module _ (x : World) (c : Call) (pick : ℕ) (right : Picks x.state pick) (inv : Sound x) where
  call_changes : (d : Call) → Passed (checks x.state d) → Changes d x.state (effect x.state d pick).after
  call_changes (by j a) p = job_changes x.state x.book x.place inv pick right j a p (effect_of x.state j pick a)
  call_changes open_job p = rows_change open_job x.state _ _
  call_changes begin p = begin_change x.state x.book x.place inv (phase_is Normal _ p.0)
  call_changes step p = step_changes x.state x.book x.place inv x.state.phase refl

  pub next_changes : Changes c x.state (next x c pick).state
  next_changes = next_cases x c pick (λ y. Changes c x.state y.state)
      (rows_change c x.state x.state.job x.state.last_job) (call_changes c)

  -- a new edge between records leads to what a hand holds
  pub next_edge : (r i : ℕ) → (next x c pick).book.slot r i ≢ 0 →
      (x.book.slot r i ≡ (next x c pick).book.slot r i) ⊎
      ((j : ℕ) × (h : ℕ) × ((next x c pick).book.holds j h ≡ (next x c pick).book.slot r i))
  next_edge r i = next_cases x c pick (λ y. y.book.slot r i ≢ 0 →
      (x.book.slot r i ≡ y.book.slot r i) ⊎ ((j : ℕ) × (h : ℕ) × (y.book.holds j h ≡ y.book.slot r i))) (λ n. inl refl)
      (λ p. new_edge x.book c _ inv.recs.unmade_slots r i)

  -- a record that stands, stands where it stood
  pub next_place : (r : ℕ) → r ≤ x.book.count → (next x c pick).place r ≢ 0 → (next x c pick).place r ≡ x.place r
  next_place r old = next_cases x c pick (λ y. y.place r ≢ 0 → y.place r ≡ x.place r) (λ n. refl)
      (λ p n. (standing_was (given x.place x.book (write x.book c (effect x.state c pick).answer) pick)
      (effect x.state c pick).after r n).0 ∙ was (write x.book c (effect x.state c pick).answer).count)
    where
      was : (count : ℕ) → cond (ltb x.book.count count) (upd x.place count pick) x.place r ≡ x.place r
      was count = cond_both (ltb x.book.count count) (upd x.place count pick) x.place (λ f. f r ≡ x.place r)
          (λ e. let h = ltb-true _ _ e in upd_other x.place count r pick (λ q. omega arith)) (λ e. refl)

  -- records are only added
  pub next_count : x.book.count ≤ (next x c pick).book.count
  next_count = next_cases x c pick (λ y. x.book.count ≤ y.book.count) (omega arith)
      (λ p. write_count x.book c (effect x.state c pick).answer)

-- a step leaves the book
pub step_book : (x : World) (c : Call) (pick : ℕ) → c ≡ step → (next x c pick).book ≡ x.book
step_book x c pick e = subst (λ (d : Call). (next x d pick).book ≡ x.book) (sym e)
    (next_cases x step pick (λ y. y.book ≡ x.book) refl (λ p. refl))
