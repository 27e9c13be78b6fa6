-- Every call keeps the invariant, and so does every run.
use Rattle.std.proofs.Common.{◌≡◌, ℕ, zero, suc, false, cond, not, ltb, refl, ap, subst, arith, ltb-false, eq-eqb}
use Rattle.std.proofs.lemmas.Bool.{cond_both}
use Rattle.model.specs.declared.JobState.TheVariants.{Parked, Running}
use Rattle.model.specs.declared.Phase.TheVariants.{Normal}
use Rattle.model.specs.Book.{Book}
use Rattle.model.specs.Calls.{Action, Call, Spelling, begin, by, close, copy, drop_hand, find, follow, load, make, nod, open_job, park, same, settle, spelling_of, step, store, text, wake}
use Rattle.model.specs.Machine.{State, filed, upd}
use Rattle.model.specs.Runs.{Picks, Run, Through, World, granted, more, new_world, next, now, standing, start, called}
use Rattle.model.specs.Tables.{checks, effect, is_on_file, job_checks, job_effect, settle_on, settles}
use Rattle.model.proofs.CardsRead.{filed_live}
use Rattle.model.proofs.Granted.{Passed, hand_range, next_cases, not_zero, or_second}
use Rattle.model.proofs.Invariant.{Inv, LiveCard, Sound}
use Rattle.model.proofs.JobCallsKeep.{close_keeps, copy_keeps, drop_keeps, follow_keeps, load_keeps, open_keeps, parked_open, status_keeps}
use Rattle.model.proofs.JobRowsKeep.{nod_keeps, running_open}
use Rattle.model.proofs.NamesKeep.{find_keeps, found_keeps, make_keeps, settle_makes}
use Rattle.model.proofs.PhaseCases.{phase_is}
use Rattle.model.proofs.PhaseMoves.{begin_keeps}
use Rattle.model.proofs.StepsKeep.{step_keeps}
use Rattle.model.proofs.StoreKeeps.{store_keeps}
use Rattle.model.proofs.SweepVisit.{standing_same}

module _ (s : State) (b : Book) (place : ℕ → ℕ) where
  -- a call that makes no record leaves the cells given to records
  old_places : (s' : State) (b' : Book) (n pick : ℕ) → Inv s' b' (standing place s') →
      Inv s' b' (standing (cond (ltb n n) (upd place n pick) place) s')
  old_places s' b' n pick inv = grind arith

  unfreed : (s' : State) (b' : Book) (n pick : ℕ) → Inv s' b' place →
      Inv s' b' (standing (cond (ltb n n) (upd place n pick) place) s')
  unfreed s' b' n pick inv = old_places s' b' n pick (standing_same s' b' place inv)

  -- one that makes a record gives it the pick
  new_place : (s' : State) (b' : Book) (n pick : ℕ) → Inv s' b' (upd place (suc n) pick) →
      Inv s' b' (standing (cond (ltb n (suc n)) (upd place (suc n) pick) place) s')
  new_place s' b' n pick inv = cond_both (ltb n (suc n)) (upd place (suc n) pick) place (λ f. Inv s' b' (standing f s'))
      (λ e. standing_same s' b' (upd place (suc n) pick) inv) (λ e. let h = ltb-false n (suc n) e in absurd (omega arith))

-- a granted call of a job
abbrev After : World → ℕ → Action → ℕ → Type 0
After x j a pick = Sound (granted x (by j a) pick (job_effect x.state j a pick))

module _ (x : World) (pick : ℕ) (inv : Sound x) (right : Picks x.state pick) where
  abbrev s : State
  s = x.state

  abbrev b : Book
  b = x.book

  settle_keeps : (j : ℕ) (name : Spelling) (h w : ℕ) → Passed (job_checks s j (settle name h w)) →
      After x j (settle name h w) pick
  settle_keeps j name h w (settles, (hs, (width, (run, (cell, (card, rest)))))) = go (filed s (text name)) refl
    where
      -- where the name is off file a cell and a card are wanted
      off : filed s (text name) ≡ 0 → is_on_file s name ≡ false
      off z = ap not (eq-eqb _ 0 z)

      go : (k : ℕ) → filed s (text name) ≡ k →
          Sound (granted x (by j (settle name h w)) pick (settle_on k s j (text name) h w pick))
      go zero q = new_place s b x.place _ _ b.count pick
          (settle_makes s b x.place inv pick w (right (or_second _ _ (off q) cell)) j (text name) h run (hand_range h hs) q
          (not_zero _ (or_second _ _ (off q) card)))
      go (suc k) q = let l = filed_live s (text name) (λ z. omega arith) in unfreed s b x.place _ _ b.count pick
          (found_keeps s b x.place inv j h (suc k) (text name) run (hand_range h hs)
          (subst (λ (m : ℕ). LiveCard s m) q l.0) (subst (λ (m : ℕ). (s.card m).spelling ≡ text name) q l.1))

  job_call_keeps : (j : ℕ) (a : Action) → Passed (job_checks s j a) → After x j a pick
  job_call_keeps j close p = unfreed s b x.place _ _ b.count pick (close_keeps s b x.place inv j)
  job_call_keeps j park p = unfreed s b x.place _ _ b.count pick
      (status_keeps s b x.place inv j Parked refl (running_open _ p.0))
  job_call_keeps j wake p = unfreed s b x.place _ _ b.count pick
      (status_keeps s b x.place inv j Running refl (parked_open _ p.0))
  job_call_keeps j nod p = unfreed s b x.place _ _ b.count pick (nod_keeps s b x.place j (running_open _ p.0) inv)
  job_call_keeps j (make h w) p = new_place s b x.place _ _ b.count pick
      (make_keeps s b x.place inv pick w (right p.1.1.1.0) j h p)
  job_call_keeps j (settle name h w) p = settle_keeps j name h w p
  job_call_keeps j (find name h) p = unfreed s b x.place _ _ b.count pick (find_keeps s b x.place inv j name h p)
  job_call_keeps j (load g i h) p = unfreed s b x.place _ _ b.count pick (load_keeps s b x.place inv j g i h p)
  job_call_keeps j (store g i h) p = unfreed s b x.place _ _ b.count pick (store_keeps s b x.place inv j g i h p)
  job_call_keeps j (copy g h) p = unfreed s b x.place _ _ b.count pick (copy_keeps s b x.place inv j g h p)
  job_call_keeps j (drop_hand h) p = unfreed s b x.place _ _ b.count pick (drop_keeps s b x.place inv j h p)
  job_call_keeps j (same g h) p = unfreed s b x.place _ _ b.count pick inv
  job_call_keeps j (follow g path h) p = unfreed s b x.place _ _ b.count pick (follow_keeps s b x.place inv j g path h p)
  job_call_keeps j (spelling_of h n) p = unfreed s b x.place _ _ b.count pick inv

  granted_keeps : (c : Call) → Passed (checks s c) → Sound (granted x c pick (effect s c pick))
  granted_keeps (by j a) p = job_call_keeps j a p
  granted_keeps open_job p = unfreed s b x.place _ _ b.count pick (open_keeps s b x.place inv p.0)
  granted_keeps begin p = unfreed s b x.place _ _ b.count pick (begin_keeps s b x.place inv (phase_is Normal _ p.0))
  granted_keeps step p = old_places s b x.place _ _ b.count pick (step_keeps s b x.place inv s.phase refl p.1.0)

  pub next_sound : (c : Call) → Sound (next x c pick)
  next_sound c = next_cases x c pick Sound inv (granted_keeps c)

new_sound : (n w : ℕ) → Sound (new_world n w)
new_sound n w = grind arith

pub run_sound : {x : World} → Run x → Sound x
run_sound (start n w small) = new_sound n w
run_sound (called {x = y} run c pick right) = next_sound y pick (run_sound run) right c

pub through_sound : {P : World → Type 0} {x y : World} → Through P x y → Sound x → Sound y
through_sound (now p) h = h
through_sound (more {y = y} t c pick right p) h = next_sound y pick (through_sound t h) right c
