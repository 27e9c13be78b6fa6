-- Store keeps the invariant: its barrier greys what it overwrites, and while jobs still owe nods what it writes.
use Rattle.std.proofs.Common.{◌≡◌, ℕ, ◌≤◌, Bool, true, false, ◌&&◌, ◌≢◌, ◌⊎◌, List, length, sym, refl, ap, ◌∙◌, subst, inl, inr, Some}
use Rattle.std.proofs.lemmas.Bool.{and_from, and_parts}
use Rattle.model.specs.declared.Colour.TheVariants.{White}
use Rattle.model.specs.declared.Phase.{Phase}
use Rattle.model.specs.declared.Phase.TheVariants.{Cleaning, Normal, Parting, Sweeping}
use Rattle.model.specs.Book.{Book, write_slot}
use Rattle.model.specs.Calls.{store}
use Rattle.model.specs.Cycle.{grey_if}
use Rattle.model.specs.Machine.{State, at, colour, hand, held, is_running, slots}
use Rattle.model.specs.Tables.{barrier, job_checks, set_slot, store_greys_new, stored}
use Rattle.model.proofs.BarrierKeeps.{grey_keeps, greys_if, marked_if}
use Rattle.model.proofs.Colours.{free_white}
use Rattle.model.proofs.Granted.{Passed, not_zero, slot_range}
use Rattle.model.proofs.GreyingKeeps.{Greys, grey_keep, marked_greyer, repeats_greying, repeats_marking}
use Rattle.model.proofs.Invariant.{Flags, Greying, Inv, Kept, Marked, Marking, Protected, Spared, marked}
use Rattle.model.proofs.JobRowsKeep.{running_open}
use Rattle.model.proofs.PhaseCases.{marking_cases}
use Rattle.model.proofs.SlotWriteKeeps.{slot_keeps}

-- an armed job stores over a spared record only where calls grey
armed_greying : (p : Phase) (cur d : ℕ) (armed owes : Bool) → armed ≡ true → Flags p armed owes → Spared p cur d → Greying p
armed_greying Normal cur d a o e g z = cc
armed_greying Cleaning cur d a o e g z = z
armed_greying Parting cur d a o e g z = z
armed_greying Sweeping cur d a o e g z = cc
armed_greying _ cur d a o e g z = tt

new_greying : (p : Phase) → store_greys_new p ≡ true → Greying p
new_greying Normal e = cc
new_greying Cleaning e = cc
new_greying Parting e = cc
new_greying Sweeping e = cc
new_greying _ e = tt

-- in the phases of marking every job is armed, and one that still owes a nod greys what it writes
marking_armed : (p : Phase) (armed owes : Bool) → Marking p → Flags p armed owes → armed ≡ true
marking_armed p a o = marking_cases (λ q. Flags q a o → a ≡ true) (λ g. g) (λ g. g.0) (λ g. g.0) p

marking_new : (p : Phase) (armed owes : Bool) → Marking p → Flags p armed owes →
    (owes ≡ false) ⊎ ((armed && store_greys_new p) ≡ true)
marking_new p a o = marking_cases (λ q. Flags q a o → (o ≡ false) ⊎ ((a && store_greys_new q) ≡ true))
    (λ g. inr (and_from a true g refl)) (λ g. inl g.1) (λ g. inl g.1) p

-- the barrier of a store by job j into slot i of what its hand g holds, of what its hand h holds
module _ (s : State) (b : Book) (place : ℕ → ℕ) (inv : Inv s b place) (j g i h : ℕ) (run : is_running (s.job j).status ≡ true)
    (nz : hand s j g ≢ 0) where
  abbrev overwritten : ℕ
  overwritten = at (slots (held s j g)) i

  abbrev pub greys_new : Bool
  greys_new = (s.job j).armed && store_greys_new s.phase

  -- after each greying
  abbrev pub first_greyed : State
  first_greyed = grey_if (s.job j).armed s overwritten

  abbrev pub both_greyed : State
  both_greyed = grey_if greys_new first_greyed (hand s j h)

  flags : Flags s.phase (s.job j).armed (s.job j).owes
  flags = (inv.jobs j).flags (running_open _ run)

  kept_g : Kept s.phase s.cursor (hand s j g) (held s j g)
  kept_g = (inv.jobs j).roots g nz

  old_greying : (s.job j).armed ≡ true → colour (s.cell overwritten) ≡ Some White → Greying s.phase
  old_greying a q = armed_greying s.phase s.cursor overwritten (s.job j).armed (s.job j).owes a flags
      ((inv.heap.leads (hand s j g) kept_g i (λ w. free_white (ap (λ (m : ℕ). colour (s.cell m)) w ∙ inv.heap.no_zero)
      q)).spared q)

  pub greys1 : Greys s.cell first_greyed.cell s.phase first_greyed.phase s.cursor
  greys1 = greys_if (s.job j).armed s.cell s.phase s.cursor overwritten old_greying

  new_greying2 : greys_new ≡ true → colour (first_greyed.cell (hand s j h)) ≡ Some White → Greying first_greyed.phase
  new_greying2 a q = repeats_greying greys1.repeats
      (new_greying s.phase (and_parts (s.job j).armed (store_greys_new s.phase) a).1)

  pub greys2 : Greys first_greyed.cell both_greyed.cell first_greyed.phase both_greyed.phase s.cursor
  greys2 = greys_if greys_new first_greyed.cell first_greyed.phase s.cursor (hand s j h) new_greying2

  inv1 : Inv first_greyed b place
  inv1 = grey_keeps s b place (s.job j).armed overwritten inv old_greying

  inv2 : Inv both_greyed b place
  inv2 = grey_keeps first_greyed b place greys_new (hand s j h) inv1 new_greying2

  store_keeps_slot : (1 ≤ i) × (i ≤ length (slots (held s j g))) →
      Inv (set_slot both_greyed (hand s j g) i (hand s j h)) (write_slot b (b.holds j g) i (b.holds j h)) place
  store_keeps_slot rng = slot_keeps both_greyed b place c i v (b.holds j g) (b.holds j h) inv2 (record {
    kept = grey_keep greys2 c (grey_keep greys1 c kept_g);
    lo = rng.0;
    hi = subst (λ (l : List ℕ). i ≤ length l) (sym same_slots) rng.1;
    old = λ m. subst (λ (l : List ℕ). at l i ≢ 0 → Marked (colour (both_greyed.cell (at l i)))) (sym same_slots)
        (λ n. marked_greyer (greys2.greyer overwritten)
        (marked_if (s.job j).armed s.cell overwritten
        (marking_armed s.phase (s.job j).armed (s.job j).owes (marking m) flags)
        (inv.heap.leads c kept_g i n).in_use));
    new_kept = λ n. (inv2.jobs j).roots h n;
    new_protected = λ m n. protect m n (marking_new s.phase (s.job j).armed (s.job j).owes (marking m) flags);
    nz = nz;
    rc = inv.hands j g;
    yv = inv.hands j h;
  })
    where
      c : ℕ
      c = hand s j g

      v : ℕ
      v = hand s j h

      marking : Marking both_greyed.phase → Marking s.phase
      marking m = repeats_marking greys1.repeats (repeats_marking greys2.repeats m)

      same_slots : slots (both_greyed.cell c) ≡ slots (s.cell c)
      same_slots = (greys2.greyer c).same_slots ∙ (greys1.greyer c).same_slots

      protect : Marking both_greyed.phase → v ≢ 0 → ((s.job j).owes ≡ false) ⊎ (greys_new ≡ true) →
          Protected both_greyed.cell v
      protect m n (inl o) = (inv2.jobs j).protected m o h n
      protect m n (inr q) = marked (marked_if greys_new first_greyed.cell v q ((inv1.jobs j).roots h n).in_use)

pub store_keeps : (s : State) (b : Book) (place : ℕ → ℕ) → Inv s b place → (j g i h : ℕ) → Passed (job_checks s j (store g i h)) →
    Inv (stored s j (hand s j g) i (hand s j h)) (write_slot b (b.holds j g) i (b.holds j h)) place
unfolding stored barrier
store_keeps s b place inv j g i h (gs, (hs, (run, (some_held, (in_range, rest))))) = store_keeps_slot s b place inv j g i h run
    (not_zero _ some_held) (slot_range (held s j g) i in_range)
