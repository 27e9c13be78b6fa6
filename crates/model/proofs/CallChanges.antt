-- What a call may change of kept records, names and marks: nothing becomes kept that was not; names stay on file but at
-- the commit; and whatever becomes marked is held, or a held record or a marked one leads to it.
use Rattle.std.proofs.Common.{◌≡◌, ℕ, zero, suc, ◌≤◌, Bool, true, false, not, ◌≢◌, ◌⊎◌, List, length, sym, refl, ap, ◌∙◌, subst, inl, inr, arith, eq-eqb, Some, None}
use Rattle.std.proofs.lemmas.Bool.{cond_both}
use Rattle.model.specs.declared.Colour.TheVariants.{White}
use Rattle.model.specs.declared.Phase.TheVariants.{Cleaning, Scanning, Tracing}
use Rattle.model.specs.Book.{Book}
use Rattle.model.specs.Calls.{Action, Call, Spelling, by, settle, step, text}
use Rattle.model.specs.Cycle.{grey_all, grey_if, nodded}
use Rattle.model.specs.Machine.{Card, Cell, Job, State, at, colour, filed, hand, held, in_phase, is_running, reads_empty, set_hand, slots, upd, with_cards, with_cells, with_jobs}
use Rattle.model.specs.Runs.{Picks}
use Rattle.model.specs.Tables.{barrier, filed_on, find_greys, found_into, is_on_file, job_checks, job_effect, set_slot, settle_on, settles, stored, taken, vacant_card}
use Rattle.model.proofs.BarrierKeeps.{greys_if, marked_was}
use Rattle.model.proofs.CallsByEffect.{Effect, finds, makes, nods, rows_alone, settles_name, stores}
use Rattle.model.proofs.CardsRead.{empty_dead}
use Rattle.model.proofs.Colours.{kept_colour}
use Rattle.model.proofs.Granted.{Passed, hand_range, not_zero, or_second}
use Rattle.model.proofs.GreyingKeeps.{Greys, grey_live, grey_unkeep, marked_in}
use Rattle.model.proofs.Invariant.{Inv, Keeps, Kept, Live, LiveCard, Marked}
use Rattle.model.proofs.JobRowsKeep.{nod_greys}
use Rattle.model.proofs.NamesKeep.{finds_greying}
use Rattle.model.proofs.SlotWriteKeeps.{slot_same_colour}
use Rattle.model.proofs.SlotsAreLastPut.{hand_now}
use Rattle.model.proofs.StoreKeeps.{both_greyed, first_greyed, greys_new, greys1, greys2}
use Rattle.model.proofs.TableLaws.{upd_elim, upd_other, upd_same, vacant_passes}

-- why a cell became grey or black
pub data Touched (s s' : State) (d : ℕ) : Type 0 where
  in_hand : (j h : ℕ) → hand s' j h ≡ d → Touched s s' d
  in_slot : (j g i : ℕ) → hand s j g ≢ 0 → at (slots (held s j g)) i ≡ d → Touched s s' d
  from_marked : (c i : ℕ) → Marked (colour (s.cell c)) → at (slots (s.cell c)) i ≡ d → Touched s s' d

abbrev pub SameNames : State → State → Type 0
SameNames s s' = (k : ℕ) → LiveCard s k → LiveCard s' k × ((s'.card k).spelling ≡ (s.card k).spelling)

pub record Commit (c : Call) (s s' : State) : Type 0 where
  pub by_step : c ≡ step
  pub before : s.phase ≡ Tracing
  pub after : s'.phase ≡ Cleaning
  pub cells : (d : ℕ) → s'.cell d ≡ s.cell d
  pub cards : (k : ℕ) → s'.card k ≡ s.card k

pub record Changes (c : Call) (s s' : State) : Type 0 where
  pub back : (d : ℕ) → Keeps s' d → Keeps s d ⊎ (colour (s.cell d) ≡ None)
  pub names : SameNames s s' ⊎ Commit c s s'
  pub marks : (d : ℕ) → Marked (colour (s'.cell d)) → Marked (colour (s.cell d)) ⊎ Touched s s' d

-- only the jobs' rows change
pub rows_change : (c : Call) (s : State) (rows : ℕ → Job) (l : ℕ) → Changes c s (with_jobs s rows l)
rows_change c s rows l = grind arith

-- records were greyed, each for a reason
grey_change : (c : Call) (s s' : State) → Greys s.cell s'.cell s.phase s'.phase s.cursor → s'.cursor ≡ s.cursor →
    s'.card ≡ s.card → ((d : ℕ) → Marked (colour (s'.cell d)) → Marked (colour (s.cell d)) ⊎ Touched s s' d) → Changes c s s'
grey_change c s s' gr cur card marks = grind arith

module _ (s : State) (b : Book) (place : ℕ → ℕ) (inv : Inv s b place) where
  pub nod_change : (c : Call) (j : ℕ) → Changes c s (nodded s j)
  unfolding nodded
  nod_change c j = grey_change c s (nodded s j) (nod_greys s.phase s.cell (s.job j).hands s.cursor) refl refl
      (λ d. cond_both (in_phase Scanning s.phase) (grey_all s.cell (s.job j).hands) s.cell
      (λ f. Marked (colour (f d)) → Marked (colour (s.cell d)) ⊎ Touched s (nodded s j) d)
      (λ e h. go d (marked_in s.cell (s.job j).hands d h)) (λ e h. inl h))
    where
      go : (d : ℕ) → Marked (colour (s.cell d)) ⊎ ((i : ℕ) × (at (s.job j).hands i ≡ d)) →
          Marked (colour (s.cell d)) ⊎ Touched s (nodded s j) d
      go d (inl h) = inl h
      go d (inr h) = inr (in_hand j h.0 (ap (λ (y : Job). at y.hands h.0) (upd_same s.job j _) ∙ h.1))

  -- a hand that was just filled
  filled : (x : State) (j h v : ℕ) → (x.job j).hands ≡ (s.job j).hands → (1 ≤ h) × (h ≤ 8) → hand (set_hand x j h v) j h ≡ v
  filled x j h v eq rng = hand_now x j h v rng.0 (let u = ap length eq ∙ (inv.jobs j).eight in let w = rng.1 in omega arith)

  found_change : (c : Call) (j h v : ℕ) → (1 ≤ h) × (h ≤ 8) → Changes c s (found_into s j h v)
  unfolding found_into
  found_change c j h v rng = grey_change c s (found_into s j h v)
      (greys_if t s.cell s.phase s.cursor v (λ e z. finds_greying s.phase (s.job j).owes e)) refl refl
      (λ d l. go d (marked_was t s.cell v d l))
    where
      t : Bool
      t = find_greys s.phase (s.job j).owes

      go : (d : ℕ) → Marked (colour (s.cell d)) ⊎ (v ≡ d) → Marked (colour (s.cell d)) ⊎ Touched s (found_into s j h v) d
      go d (inl l) = inl l
      go d (inr e) = inr (in_hand j h (filled (grey_if t s v) j h v refl rng ∙ e))

  -- a new record goes into a hand; live cards stay as they are
  taken_change : (c : Call) (pick : ℕ) (x : Cell) (card' : ℕ → Card) (l j h : ℕ) → colour (s.cell pick) ≡ None →
      (1 ≤ h) × (h ≤ 8) →
      ((k : ℕ) → LiveCard s k → card' k ≡ s.card k) →
      Changes c s (set_hand (with_cards (with_cells s (upd s.cell pick x)) card' l) j h pick)
  taken_change c pick x card' l j h vac rng stay = record {
    back = λ d. upd_elim (λ y. Kept s.phase s.cursor d y → Keeps s d ⊎ (colour (s.cell d) ≡ None)) s.cell pick d x
        (λ e u. inr (ap (λ (m : ℕ). colour (s.cell m)) (sym e) ∙ vac)) (λ e u. inl u);
    names = inl (λ k v. subst (λ (y : Card). Live (upd s.cell pick x) s.phase y × (y.spelling ≡ (s.card k).spelling))
        (sym (stay k v)) (alive k v, refl));
    marks = λ d. upd_elim (λ y. Marked (colour y) →
        Marked (colour (s.cell d)) ⊎ Touched s (set_hand (with_cards (with_cells s (upd s.cell pick x)) card' l) j h pick) d)
        s.cell pick d x
        (λ e u. inr (in_hand j h (filled (with_cards (with_cells s (upd s.cell pick x)) card' l) j h pick refl rng ∙ e)))
        (λ e u. inl u);
  }
    where
      alive : (k : ℕ) → LiveCard s k → Live (upd s.cell pick x) s.phase (s.card k)
      alive k v = record {
        filled = v.filled;
        not_white = λ e. subst (λ (y : Cell). colour y ≢ Some White)
            (sym (upd_other s.cell pick (s.card k).record_at x
            (λ q. (inv.cards.live k v).0.in_use (ap (λ (m : ℕ). colour (s.cell m)) (sym q) ∙ vac)))) (v.not_white e);
      }

  make_change : (c : Call) (pick j h w : ℕ) → colour (s.cell pick) ≡ None → (1 ≤ h) × (h ≤ 8) →
      Changes c s (set_hand (taken s pick 0 w) j h pick)
  unfolding taken
  make_change c pick j h w vac rng = taken_change c pick _ s.card s.last_card j h vac rng (λ k v. refl)

  settle_change : (c : Call) (pick j h w : ℕ) (t : List ℕ) → colour (s.cell pick) ≡ None → (1 ≤ h) × (h ≤ 8) →
      vacant_card s ≢ 0 → Changes c s (set_hand (filed_on (taken s pick (vacant_card s) w) (vacant_card s) t pick) j h pick)
  unfolding taken filed_on
  settle_change c pick j h w t vac rng vacancy = taken_change c pick _ _ (vacant_card s) j h vac rng
      (λ k v. upd_other s.card (vacant_card s) k _
      (λ q. empty_dead s k (subst (λ (m : ℕ). reads_empty s m ≡ true) q
      (vacant_passes (reads_empty s) s.last_card 512 vacancy)) v))

  store_change : (c : Call) (j g i h : ℕ) → is_running (s.job j).status ≡ true → hand s j g ≢ 0 →
      Changes c s (stored s j (hand s j g) i (hand s j h))
  unfolding stored barrier set_slot
  store_change c j g i h run nz = record {
    back = λ d k. inl (grey_unkeep gr1 d (grey_unkeep gr2 d
        (kept_colour s2.phase s2.cursor d (s3.cell d) (s2.cell d) (sym (same_colour d)) k)));
    names = inl (λ k l. (slot_live (s.card k) (grey_live gr2 (s.card k) (grey_live gr1 (s.card k) l)), refl));
    marks = λ d l. second d (marked_was (greys_new s b place inv j g i h run nz) s1.cell (hand s j h) d
        (subst Marked (same_colour d) l));
  }
    where
      s1 : State
      s1 = first_greyed s b place inv j g i h run nz

      s2 : State
      s2 = both_greyed s b place inv j g i h run nz

      s3 : State
      s3 = set_slot s2 (hand s j g) i (hand s j h)

      gr1 : Greys s.cell s1.cell s.phase s1.phase s.cursor
      gr1 = greys1 s b place inv j g i h run nz

      gr2 : Greys s1.cell s2.cell s1.phase s2.phase s.cursor
      gr2 = greys2 s b place inv j g i h run nz

      same_colour : (d : ℕ) → colour (s3.cell d) ≡ colour (s2.cell d)
      same_colour d = slot_same_colour s2.cell (hand s j g) i (hand s j h) d

      slot_live : (x : Card) → Live s2.cell s2.phase x → Live s3.cell s3.phase x
      slot_live x l = record { filled = l.filled; not_white = λ q w. l.not_white q (sym (same_colour x.record_at) ∙ w) }

      first : (d : ℕ) → Marked (colour (s.cell d)) ⊎ (at (slots (held s j g)) i ≡ d) →
          Marked (colour (s.cell d)) ⊎ Touched s s3 d
      first d (inl l) = inl l
      first d (inr q) = inr (in_slot j g i nz q)

      second : (d : ℕ) → Marked (colour (s1.cell d)) ⊎ (hand s j h ≡ d) → Marked (colour (s.cell d)) ⊎ Touched s s3 d
      second d (inl l) = first d (marked_was (s.job j).armed s.cell (at (slots (held s j g)) i) d l)
      second d (inr q) = inr (in_hand j h q)

  module _ (pick : ℕ) (right : Picks s pick) where
    settle_changes : (j : ℕ) (name : Spelling) (h w : ℕ) → Passed (job_checks s j (settle name h w)) →
        Changes (by j (settle name h w)) s (settle_on (filed s (text name)) s j (text name) h w pick).after
    settle_changes j name h w (settles, (hs, (width, (run, (cell, (card, rest)))))) = go (filed s (text name)) refl
      where
        off : filed s (text name) ≡ 0 → is_on_file s name ≡ false
        off z = ap not (eq-eqb _ 0 z)

        go : (k : ℕ) → filed s (text name) ≡ k → Changes (by j (settle name h w)) s (settle_on k s j (text name) h w pick).after
        go zero q = settle_change _ pick j h w (text name) (right (or_second _ _ (off q) cell)).vacant
            (hand_range h hs) (not_zero _ (or_second _ _ (off q) card))
        go (suc k) q = found_change _ j h _ (hand_range h hs)

    pub job_changes : (j : ℕ) (a : Action) → Passed (job_checks s j a) → Effect s j pick a →
        Changes (by j a) s (job_effect s j a pick).after
    job_changes j a p (rows_alone rows e) = subst (λ (x : State). Changes (by j a) s x) (sym e)
        (rows_change _ s rows s.last_job)
    job_changes j a p nods = nod_change _ j
    job_changes j a p (makes h w) = make_change _ pick j h w (right p.1.1.1.0).vacant
        (hand_range h p.0)
    job_changes j a p (settles_name name h w) = settle_changes j name h w p
    job_changes j a p (finds name h) = found_change _ j h _ (hand_range h p.1.0)
    job_changes j a p (stores g i h) = store_change _ j g i h p.1.1.0 (not_zero _ p.1.1.1.0)
