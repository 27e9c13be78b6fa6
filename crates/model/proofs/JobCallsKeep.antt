-- Calls of a job that make no record and grey none keep the invariant: open, close, park, wake, nod, load, copy, drop
-- and follow.
use Rattle.std.proofs.Common.{◌≡◌, ℕ, suc, ◌≤◌, true, false, not, eqb, ◌≢◌, ◌⊎◌, List, [], ◌∷◌, Result, sym, refl, ◌∙◌, subst, inl, inr, Some}
use Rattle.std.specs.Result.{result_unwrap_or}
use borrow.Author.Tests.{eqb-false, not-true}
use Rattle.std.proofs.lemmas.Bool.{cond_both}
use Rattle.refusal.specs.declared.Refusal.{Refusal}
use Rattle.model.specs.declared.Colour.TheVariants.{Black}
use Rattle.model.specs.declared.JobState.{JobState}
use Rattle.model.specs.declared.JobState.TheVariants.{Closed}
use Rattle.model.specs.Book.{Book, hold, led}
use Rattle.model.specs.Calls.{copy, drop_hand, follow, load}
use Rattle.model.specs.Machine.{Job, State, at, closed_row, colour, empty_hands, hand, held, is_open, is_parked, set_hand, set_job, slots, upd, with_jobs}
use Rattle.model.specs.Tables.{job_checks, opened_job, slot_ok, vacant_job, walk, walks}
use Rattle.model.proofs.Colours.{black_or}
use Rattle.model.proofs.Granted.{Passed, hand_range, not_zero}
use Rattle.model.proofs.Invariant.{Inv, Keeps, Marking, Protected, StandsFor, via}
use Rattle.model.proofs.JobRowsKeep.{MayHold, at_none, close_ok, hand_keeps, open_ok, row_alone_keeps, row_keeps, running_open, stand_ok}
use Rattle.model.proofs.TableLaws.{vacant_passes, vacant_range}

pub parked_open : (t : JobState) → is_parked t ≡ true → is_open t ≡ true
parked_open Closed h = h
parked_open _ h = refl

module _ (s : State) (b : Book) (place : ℕ → ℕ) (inv : Inv s b place) where
  pub open_keeps : not (eqb (vacant_job s) 0) ≡ true →
      Inv (with_jobs s (upd s.job (vacant_job s) (opened_job s.phase)) (vacant_job s)) b place
  open_keeps e = row_alone_keeps s b place k k (opened_job s.phase) inv rng.1
      (open_ok s.cell s.phase s.cursor k rng.0 rng.1) rel
    where
      k : ℕ
      k = vacant_job s

      rng : (1 ≤ k) × (k ≤ 16)
      rng = vacant_range (λ j. not (is_open (s.job j).status)) s.last_job 16 inv.lasts.1 (not_zero k e)

      shut : is_open (s.job k).status ≡ false
      shut = not-true _ (vacant_passes (λ j. not (is_open (s.job j).status)) s.last_job 16 (not_zero k e))

      rel : (g : ℕ) → StandsFor place (b.holds k g) (at empty_hands g)
      rel g = subst (λ (v : ℕ). StandsFor place (b.holds k g) v) ((inv.jobs k).shut shut g ∙ sym (at_none g)) (inv.hands k g)

  pub close_keeps : (j : ℕ) → Inv (set_job s j closed_row) (record b { holds = upd b.holds j (λ h. 0) }) place
  close_keeps j = row_keeps s b place j s.last_job closed_row (λ h. 0) inv inv.lasts.1
      (close_ok s.cell s.phase s.cursor j) (λ g. record {
        is = at_none g ∙ sym inv.recs.none_at;
        none_is = λ z. refl;
      })

  pub status_keeps : (j : ℕ) (t : JobState) → is_open t ≡ true → is_open (s.job j).status ≡ true →
      Inv (set_job s j (record (s.job j) { status = t })) b place
  status_keeps j t o w = row_alone_keeps s b place j s.last_job (record (s.job j) { status = t }) inv inv.lasts.1
      (stand_ok s.cell s.phase s.cursor j (s.job j) t o w (inv.jobs j)) (inv.hands j)

  -- what a hand holds may go into another hand of the job
  held_may : (j g : ℕ) → MayHold s.cell s.phase s.cursor (s.job j) place (b.holds j g) (hand s j g)
  held_may j g = record { rel = inv.hands j g; kept = (inv.jobs j).roots g; safe = λ t o. (inv.jobs j).protected t o g }

  -- and so may what a slot of such a record holds
  slot_may : (row : Job) (r c i : ℕ) → c ≢ 0 → MayHold s.cell s.phase s.cursor row place r c →
      MayHold s.cell s.phase s.cursor row place (b.slot r i) (at (slots (s.cell c)) i)
  slot_may row r c i nz m = record {
    rel = subst (λ (d : ℕ). StandsFor place (b.slot r i) (at (slots (s.cell d)) i)) (sym m.rel.is)
        ((inv.recs.recs r (λ z. nz (m.rel.is ∙ z)) (subst (λ (d : ℕ). Keeps s d) m.rel.is (m.kept nz))).holds i);
    kept = inv.heap.leads c (m.kept nz) i;
    safe = λ t o n. go t n (m.safe t o nz) (black_or (colour (s.cell c)));
  }
    where
      go : Marking s.phase → at (slots (s.cell c)) i ≢ 0 → Protected s.cell c →
          (colour (s.cell c) ≡ Some Black) ⊎ (colour (s.cell c) ≢ Some Black) → Protected s.cell (at (slots (s.cell c)) i)
      go t n h (inl e) = inv.heap.protects t c e i n
      go t n h (inr e) = via i h e refl n

  pub load_keeps : (j g i h : ℕ) → Passed (job_checks s j (load g i h)) →
      Inv (set_hand s j h (at (slots (held s j g)) i)) (hold b j h (b.slot (b.holds j g) i)) place
  load_keeps j g i h (gs, (hs, (run, (some_held, rest)))) = hand_keeps s b place j h _ _ inv (running_open _ run)
      (hand_range h hs) (slot_may (s.job j) (b.holds j g) (hand s j g) i (not_zero _ some_held) (held_may j g))

  pub copy_keeps : (j g h : ℕ) → Passed (job_checks s j (copy g h)) →
      Inv (set_hand s j h (hand s j g)) (hold b j h (b.holds j g)) place
  copy_keeps j g h (gs, (hs, (run, rest))) = hand_keeps s b place j h _ _ inv (running_open _ run) (hand_range h hs)
      (held_may j g)

  pub drop_keeps : (j h : ℕ) → Passed (job_checks s j (drop_hand h)) → Inv (set_hand s j h 0) (hold b j h 0) place
  drop_keeps j h (hs, (run, rest)) = hand_keeps s b place j h 0 0 inv (running_open _ run) (hand_range h hs)
      (record {
        rel = record { is = sym inv.recs.none_at; none_is = λ z. refl };
        kept = λ n. absurd (n refl);
        safe = λ t o n. absurd (n refl);
      })

  -- a walk that ends, ends at what may go into a hand
  walk_may : (row : Job) (path : List ℕ) (r c n : ℕ) → MayHold s.cell s.phase s.cursor row place r c →
      (walks (walk s.cell c n path)).holds ≡ true →
      MayHold s.cell s.phase s.cursor row place (led b.slot r path) (result_unwrap_or (walk s.cell c n path) 0)
  unfolding walk led
  walk_may row [] r c n m = λ e. m
  walk_may row (i ∷ is) r c n m = cond_both (eqb c 0) _ _ ends (λ z q. cc)
      (λ z. cond_both (slot_ok (s.cell c) i) _ _ ends
      (λ q. walk_may row is (b.slot r i) (at (slots (s.cell c)) i) (suc n) (slot_may row r c i (eqb-false c 0 z) m))
      (λ z q. cc))
    where
      ends : Result ℕ Refusal → Type 0
      ends o = (walks o).holds ≡ true → MayHold s.cell s.phase s.cursor row place (led b.slot (b.slot r i) is)
          (result_unwrap_or o 0)

  pub follow_keeps : (j g : ℕ) (path : List ℕ) (h : ℕ) → Passed (job_checks s j (follow g path h)) →
      Inv (set_hand s j h (result_unwrap_or (walk s.cell (hand s j g) 0 path) 0)) (hold b j h (led b.slot (b.holds j g) path)) place
  follow_keeps j g path h (gs, (hs, (short, (run, (some_held, (ends, rest)))))) = hand_keeps s b place j h _ _ inv
      (running_open _ run) (hand_range h hs) (walk_may (s.job j) path (b.holds j g) (hand s j g) 0 (held_may j g) ends)
