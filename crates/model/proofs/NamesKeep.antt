-- Find, make and settle keep the invariant.
use Rattle.std.proofs.Common.{◌≡◌, ℕ, suc, ◌≤◌, Bool, true, false, not, ◌≢◌, List, replicate, sym, refl, ap, ◌∙◌, subst, inl, inr, arith, Option, Some, None, bytes_eq}
use Rattle.std.proofs.lemmas.Slice.Eq.{bytes_eq-Decides}
use Rattle.std.proofs.lemmas.Bool.{cases_Bool}
use Rattle.model.specs.declared.Colour.TheVariants.{White}
use Rattle.model.specs.declared.Phase.{Phase}
use Rattle.model.specs.declared.Phase.TheVariants.{Cleaning, Normal, Parting, Sweeping}
use Rattle.model.specs.Book.{Book, bearer, hold, is_named, latest, new_record}
use Rattle.model.specs.Calls.{Spelling, find, make, text}
use Rattle.model.specs.Cycle.{grey_if, new_colour}
use Rattle.model.specs.Machine.{Card, Cell, Job, State, card_of, colour, filed, is_running, reads_empty, set_hand, upd, used}
use Rattle.model.specs.Runs.{FreeCell}
use Rattle.model.specs.Tables.{filed_on, find_greys, found_into, job_checks, settles, taken, vacant_card}
use Rattle.model.proofs.BarrierKeeps.{cells_if, grey_keeps, greys_if, marked_if, phase_if}
use Rattle.model.proofs.CardsRead.{empty_dead, filed_live, on_file}
use Rattle.model.proofs.Granted.{Passed, hand_range, not_zero}
use Rattle.model.proofs.GreyingKeeps.{Greys, grey_keep, repeats_marking}
use Rattle.model.proofs.Invariant.{Greying, Inv, Keeps, Kept, Live, LiveCard, Marked, Marking, marked}
use Rattle.model.proofs.JobRowsKeep.{MayHold, hand_keeps, running_open}
use Rattle.model.proofs.PhaseCases.{marking_cases}
use Rattle.model.proofs.TableLaws.{upd_all, upd_other, upd_same, vacant_passes, vacant_range}
use Rattle.model.proofs.TakingKeeps.{file_cards, latest_most, latest_new, latest_old, new_kept, not_empty, take_cards, take_heap, take_job, take_recs, take_rel, take_unlive}

-- find greys only where calls grey, and wherever a record must be protected
pub finds_greying : (p : Phase) (owes : Bool) → find_greys p owes ≡ true → Greying p
finds_greying Normal owes e = cc
finds_greying Cleaning owes e = cc
finds_greying Parting owes e = cc
finds_greying Sweeping owes e = cc
finds_greying _ owes e = tt

marking_greys : (p : Phase) (owes : Bool) → owes ≡ false → Marking p → find_greys p owes ≡ true
marking_greys p owes e = marking_cases (λ q. find_greys q owes ≡ true) (ap not e) refl refl p

new_marked : (p : Phase) (cur c : ℕ) → Marking p → Marked (Some (new_colour p cur c))
new_marked p cur c = marking_cases (λ q. Marked (Some (new_colour q cur c))) tt tt tt p

module _ (s : State) (b : Book) (place : ℕ → ℕ) (inv : Inv s b place) where
  -- the record on a live card goes into a hand
  pub found_keeps : (j h k : ℕ) (t : List ℕ) → is_running (s.job j).status ≡ true → (1 ≤ h) × (h ≤ 8) → LiveCard s k →
      (s.card k).spelling ≡ t → Inv (found_into s j h (s.card k).record_at) (hold b j h (bearer b t)) place
  unfolding found_into
  found_keeps j h k t e rng l q = hand_keeps (grey_if g s c) b place j h (bearer b t) c (grey_keeps s b place g c inv greying)
      (running_open _ e) rng (record {
        rel = record {
          is = sym (inv.recs.newest k l) ∙ ap (λ (u : List ℕ). place (bearer b u)) q;
          none_is = λ z. absurd (l.filled z);
        };
        kept = λ n. grey_keep greys c kc;
        safe = λ m o n. marked (marked_if g s.cell c
            (marking_greys s.phase (s.job j).owes o (repeats_marking greys.repeats m)) kc.in_use);
      })
    where
      c : ℕ
      c = (s.card k).record_at

      g : Bool
      g = find_greys s.phase (s.job j).owes

      greying : g ≡ true → colour (s.cell c) ≡ Some White → Greying s.phase
      greying e z = finds_greying s.phase (s.job j).owes e

      greys : Greys s.cell (cells_if g s.cell c) s.phase (phase_if g (s.cell c) s.phase) s.cursor
      greys = greys_if g s.cell s.phase s.cursor c greying

      kc : Keeps s c
      kc = (inv.cards.live k l).0

  pub find_keeps : (j : ℕ) (name : Spelling) (h : ℕ) → Passed (job_checks s j (find name h)) →
      Inv (found_into s j h (s.card (filed s (text name))).record_at) (hold b j h (bearer b (text name))) place
  find_keeps j name h (settles, (hs, (run, (filed, rest)))) = let l = filed_live s (text name) (not_zero _ filed) in found_keeps j
      h _ (text name) run (hand_range h hs) l.0 l.1

  -- the new record may go into a hand
  new_may : (pick k w : ℕ) (row : Job) → 1 ≤ pick → colour (s.cell pick) ≡ None →
      MayHold (upd s.cell pick (used (new_colour s.phase s.cursor pick) k (replicate w 0))) s.phase s.cursor row
      (upd place (suc b.count) pick) (suc b.count) pick
  new_may pick k w row lo vac = record {
    rel = record { is = sym (upd_same place (suc b.count) pick); none_is = λ z. absurd (omega arith) };
    kept = λ n. subst (λ (x : Cell). Kept s.phase s.cursor pick x) (sym (upd_same s.cell pick _))
        (new_kept s.cell s.phase s.cursor pick k w vac);
    safe = λ t o n. marked (subst (λ (x : Cell). Marked (colour x))
        (sym (upd_same s.cell pick (used (new_colour s.phase s.cursor pick) k (replicate w 0))))
        (new_marked s.phase s.cursor pick t));
  }

  -- a live card holds the latest record of its name, also after a record of another name was made
  still_newest : (pick m : ℕ) (n : Option (List ℕ)) → LiveCard s m → is_named n (s.card m).spelling ≡ false →
      upd place (suc b.count) pick (latest (upd b.name (suc b.count) n) (suc b.count) (s.card m).spelling) ≡ (s.card
      m).record_at
  still_newest pick m n l other = ap (upd place (suc b.count) pick)
      (latest_old b.name b.count n (s.card m).spelling other)
      ∙ upd_other place (suc b.count) _ pick
      (λ e. let q = latest_most b.name b.count (s.card m).spelling in omega arith) ∙ inv.recs.newest m l

  module _ (pick w : ℕ) (right : FreeCell s pick) where
    taken_keeps : Inv (taken s pick 0 w) (new_record b w None) (upd place (suc b.count) pick)
    unfolding taken
    taken_keeps = record {
      heap = take_heap f p cur pick 0 w vac s.size right.lowest right.highest inv.heap;
      jobs = λ j. take_job f p cur pick 0 w vac j (s.job j) (inv.jobs j);
      cards = take_cards f p cur pick 0 w vac refl s.card inv.cards;
      hands = λ j h. take_rel f p cur pick 0 w vac s.card s.card b.count b.width b.slot b.name place None
          inv.recs _ _ (inv.hands j h);
      recs = take_recs f p cur pick 0 w vac s.card s.card b.count b.width b.slot b.name place None inv.recs
          inv.heap.no_zero right.lowest (λ c h n. refl) refl
          (λ m l. still_newest pick m None (take_unlive f p cur pick 0 w vac (s.card m) l) refl);
      lasts = inv.lasts;
    }
      where
        f : ℕ → Cell
        f = s.cell

        p : Phase
        p = s.phase

        cur : ℕ
        cur = s.cursor

        vac : colour (s.cell pick) ≡ None
        vac = right.vacant

    pub make_keeps : (j h : ℕ) → Passed (job_checks s j (make h w)) →
        Inv (set_hand (taken s pick 0 w) j h pick) (hold (new_record b w None) j h (suc b.count))
        (upd place (suc b.count) pick)
    unfolding taken
    make_keeps j h (hs, (width, (run, rest))) = hand_keeps (taken s pick 0 w) (new_record b w None)
        (upd place (suc b.count) pick) j h (suc b.count) pick taken_keeps (running_open _ run) (hand_range h hs)
        (new_may pick 0 w (s.job j) right.lowest right.vacant)

    -- a new record, filed on a card that read as empty, under a name that was off file
    filed_keeps : (k : ℕ) (t : List ℕ) → (1 ≤ k) × (k ≤ 512) → (LiveCard s k → ⊥) →
        ((m : ℕ) → LiveCard s m → (s.card m).spelling ≢ t) →
        Inv (filed_on (taken s pick k w) k t pick) (new_record b w (Some t)) (upd place (suc b.count) pick)
    unfolding taken filed_on
    filed_keeps k t rng dead off = record {
      heap = take_heap f p cur pick k w vac s.size right.lowest right.highest inv.heap;
      jobs = λ j. take_job f p cur pick k w vac j (s.job j) (inv.jobs j);
      cards = file_cards f p cur pick k w vac t s.card s.size inv.heap rng.0 rng.1 right.lowest dead off
          inv.cards;
      hands = λ j h. take_rel f p cur pick k w vac s.card (upd s.card k C) b.count b.width b.slot b.name place
          (Some t) inv.recs _ _ (inv.hands j h);
      recs = take_recs f p cur pick k w vac s.card (upd s.card k C) b.count b.width b.slot b.name place (Some t)
          inv.recs inv.heap.no_zero right.lowest
          (λ c h n. upd_other s.card k (card_of (f c)) C
          (not_empty f p cur pick k w vac s.card s.size inv.heap inv.cards dead c h n))
          ((λ z. let lo = rng.0 in omega arith), ap (λ (x : Card). x.spelling) (upd_same s.card k C))
          (upd_all (λ m x. Live (upd f pick (used (new_colour p cur pick) k (replicate w 0))) p x →
          upd place (suc b.count) pick (latest (upd b.name (suc b.count) (Some t)) (suc b.count) x.spelling) ≡
          x.record_at) s.card k C
          (λ l. ap (upd place (suc b.count) pick) (latest_new b.name b.count (Some t) t ((bytes_eq-Decides t t).1 refl))
          ∙ upd_same place (suc b.count) pick)
          (λ m e l. let live = take_unlive f p cur pick k w vac (s.card m) l in still_newest pick m (Some t) live
          (other m live)));
      lasts = (rng.1, inv.lasts.1);
    }
      where
        f : ℕ → Cell
        f = s.cell

        p : Phase
        p = s.phase

        cur : ℕ
        cur = s.cursor

        vac : colour (s.cell pick) ≡ None
        vac = right.vacant

        C : Card
        C = record { spelling = t; record_at = pick }

        other : (m : ℕ) → Live f p (s.card m) → bytes_eq t (s.card m).spelling ≡ false
        other m l = elim (cases_Bool (bytes_eq t (s.card m).spelling))
            [ inl e ↦ absurd (off m l (sym ((bytes_eq-Decides _ _).0 e))) | inr e ↦ e ]

    pub settle_makes : (j : ℕ) (t : List ℕ) (h : ℕ) → is_running (s.job j).status ≡ true → (1 ≤ h) × (h ≤ 8) → filed s t ≡ 0 →
        vacant_card s ≢ 0 →
        Inv (set_hand (filed_on (taken s pick (vacant_card s) w) (vacant_card s) t pick) j h pick)
        (hold (new_record b w (Some t)) j h (suc b.count)) (upd place (suc b.count) pick)
    unfolding taken filed_on
    settle_makes j t h run rng off vacancy = hand_keeps (filed_on (taken s pick k w) k t pick) (new_record b w (Some t))
        (upd place (suc b.count) pick) j h (suc b.count) pick
        (filed_keeps k t (vacant_range (reads_empty s) s.last_card 512 inv.lasts.0 vacancy)
        (empty_dead s k (vacant_passes (reads_empty s) s.last_card 512 vacancy))
        (λ m l e. on_file s b place inv t m l e off))
        (running_open _ run) rng (new_may pick k w (s.job j) right.lowest right.vacant)
      where
        k : ℕ
        k = vacant_card s
