-- The promise is kept.
use Rattle.std.proofs.Common.{◌≡◌, ℕ, Bool, ◌≢◌, List, Err, sym, ap, ◌∙◌, arith, Some, IsTrue}
use Rattle.refusal.specs.declared.Refusal.{Refusal}
use Rattle.model.specs.Book.{Book, Reached, bearer}
use Rattle.model.specs.Calls.{Call}
use Rattle.model.specs.Machine.{State, first, is_free}
use Rattle.model.specs.Promise.{Promise, Theorem}
use Rattle.model.specs.Runs.{Picks, Run, World, next, next_by}
use Rattle.model.specs.Tables.{outcome, room}
use Rattle.model.proofs.Colours.{free_is}
use Rattle.model.proofs.CommitBound.{commit_bound}
use Rattle.model.proofs.CommitsOnce.{commits_once}
use Rattle.model.proofs.Granted.{not_zero}
use Rattle.model.proofs.Invariant.{Sound}
use Rattle.model.proofs.NamesGoAtCommit.{names_lost}
use Rattle.model.proofs.RunsKeep.{run_sound}
use Rattle.model.proofs.SlotsAreLastPut.{loads}
use Rattle.model.proofs.StoreAgrees.{agree, files, reached_stands}
use Rattle.model.proofs.TableLaws.{first_passes, first_range}
use Rattle.model.proofs.UnreachedIsFreed.{frees}

-- the lowest free cell is a right pick
right_pick : (s : State) → (pick : ℕ) × Picks s pick
right_pick s = (
  k,
  λ r. record {
    vacant = free_is _ (first_passes t 1 s.size (nz r));
    lowest = (first_range t 1 s.size (nz r)).0;
    highest = (let q = (first_range t 1 s.size (nz r)).1 in omega arith);
  },
)
  where
    t : ℕ → Bool
    t c = is_free (s.cell c)

    k : ℕ
    k = first t 1 s.size

    nz : IsTrue (room s) → first t 1 s.size ≢ 0
    nz = not_zero _

refused_same : (x : World) (c : Call) (pick : ℕ) (e : Refusal) → outcome x.state c pick ≡ Err e → next x c pick ≡ x
unfolding next
refused_same x c pick e h = ap (next_by x c pick) h

promise : {x : World} (run : Run x) → Promise run
promise {x} run = record {
  stands = λ r h. (reached_stands s b place inv h).placed;
  files = λ r t h. files s b place inv r t (reached_stands s b place inv h);
  one_name = λ r q t h g e f. sym (is_bearer r t h e) ∙ is_bearer q t g f;
  agrees = agree s b place inv;
  refusals = refused_same x;
  loads = loads x run;
  loses = names_lost x run;
  commits_once = λ w. commits_once w x;
  frees = λ w y. frees w y x;
  bounded = (commit_bound x run).0;
  commits_soon = (commit_bound x run).1;
}
  where
    inv : Sound x
    inv = run_sound run

    s : State
    s = x.state

    b : Book
    b = x.book

    place : ℕ → ℕ
    place = x.place

    is_bearer : (r : ℕ) (t : List ℕ) → Reached b r → b.name r ≡ Some t → bearer b t ≡ r
    is_bearer r t h e = (files s b place inv r t (reached_stands s b place inv h) e).1

pub theorem : Theorem
theorem = record { every_run = promise; goes_on = λ x. right_pick x.state }
