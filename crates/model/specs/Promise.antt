-- The promise: what holds after every list of calls on a store that began new, over every heap.
use Rattle.std.specs.Prelude.{◌≡◌, ℕ, ◌+◌, ◌*◌, ◌<◌, ◌≤◌, ◌≢◌, IsTrue, List, length, Err, Option, Some, None}
use Rattle.refusal.specs.declared.Refusal.{Refusal}
use Rattle.model.specs.declared.Phase.TheVariants.{Normal}
use Rattle.model.specs.Machine.{at, colour, slots, card_of, Card, is_tracing, State, hand, filed}
use Rattle.model.specs.Calls.{Call, by, begin, step, load}
use Rattle.model.specs.Tables.{outcome}
use Rattle.model.specs.Book.{Book, bearer, Leads, Reached}
use Rattle.model.specs.Runs.{World, next, Picks, Run, Through, Later, Unreached, Commits, Loses, Granted, LastPut, trace_steps}

-- a card bears a name: no card for no name
abbrev pub Bears : (ℕ → Card) → Option (List ℕ) → ℕ → Type 0
Bears card None k = k ≡ 0
Bears card (Some t) k = (k ≢ 0) × ((card k).spelling ≡ t)

-- store and book agree: the hands hold the cells of the book's records, and those that hands reach have used cells, no
-- two alike, with their widths, the cells of what their slots hold, and cards that bear their names
pub record Agree (s : State) (b : Book) (place : ℕ → ℕ) : Type 0 where
  pub hands : (j h : ℕ) → hand s j h ≡ place (b.holds j h)
  pub in_use : (r : ℕ) → Reached b r → colour (s.cell (place r)) ≢ None
  pub apart : (r t : ℕ) → Reached b r → Reached b t → place r ≡ place t → r ≡ t
  pub widths : (r : ℕ) → Reached b r → length (slots (s.cell (place r))) ≡ b.width r
  pub contents : (r : ℕ) → Reached b r → (i : ℕ) → at (slots (s.cell (place r))) i ≡ place (b.slot r i)
  pub names : (r : ℕ) → Reached b r → Bears s.card (b.name r) (card_of (s.cell (place r)))

-- how a name is lost: by a commit; its record still stood, no hand reaches it, and every named record that stood and
-- led to it loses its name with it
pub record Lost (x : World) (c : Call) (pick : ℕ) (t : List ℕ) : Type 0 where
  pub commit : Commits x c pick
  pub stood : (x.place (bearer x.book t) ≢ 0) ×
      (x.place (bearer x.book t) ≡ (x.state.card (filed x.state t)).record_at)
  pub unreached : Unreached (bearer x.book t) (next x c pick)
  pub with_it : (q : ℕ) (u : List ℕ) → x.place q ≢ 0 → x.book.name q ≡ Some u → Leads x.book q (bearer x.book t) →
      Loses x c pick u

-- the cycle has not ended
abbrev pub InCycle : World → Type 0
InCycle x = x.state.phase ≢ Normal

-- with N cells, the most trace steps from begin to the commit
abbrev pub trace_limit : ℕ → ℕ
trace_limit n = n * (2 * n + 1)

-- THE PROMISE, on a run that ends at x

pub record Promise {x : World} (run : Run x) : Type 0 where
  -- no record that a hand reaches has been freed
  pub stands : (r : ℕ) → Reached x.book r → x.place r ≢ 0
  -- the name of such a record is on file, and stands for that record: settle and find give it
  pub files : (r : ℕ) (name : List ℕ) → Reached x.book r → x.book.name r ≡ Some name →
      (filed x.state name ≢ 0) × (bearer x.book name ≡ r)
  -- no two such records bear one settled spelling
  pub one_name : (r t : ℕ) (name : List ℕ) → Reached x.book r → Reached x.book t →
      x.book.name r ≡ Some name → x.book.name t ≡ Some name → r ≡ t
  -- the store agrees with the book
  pub agrees : Agree x.state x.book x.place
  -- a refused call changes nothing
  pub refusals : (c : Call) (pick : ℕ) (e : Refusal) → outcome x.state c pick ≡ Err e → next x c pick ≡ x
  -- a granted load gives what the last granted store put there, or empty if none did
  pub loads : (j g i h pick : ℕ) → Picks x.state pick → Granted x (by j (load g i h)) pick →
      (v : ℕ) × LastPut (x.book.holds j g) i v x run × (hand (next x (by j (load g i h)) pick).state j h ≡ x.place v)
  -- a name goes off file only at a commit, unreached, with all that lead to its record
  pub loses : (c : Call) (pick : ℕ) → Picks x.state pick → (t : List ℕ) → Loses x c pick t → Lost x c pick t
  -- a cycle has one commit, so it loses all its names together
  pub commits_once : (w : World) → Run w → (pick later : ℕ) → Picks w.state pick → Commits w step pick →
      Through InCycle (next w step pick) x → Commits x step later → ⊥
  -- a record that stood at begin, and that no hand reached from then to the commit, is freed by the cycle's end
  pub frees : (w y : World) → Run w → (r first last : ℕ) → w.place r ≢ 0 →
      Picks w.state first → Granted w begin first → Through (Unreached r) (next w begin first) y →
      Picks y.state last → Commits y step last → Later (next y step last) x → x.state.phase ≡ Normal → x.place r ≡ 0
  -- the commit comes within N × (2N + 1) trace steps: no cycle has more, and while tracing goes on there were fewer
  pub bounded : trace_steps run ≤ trace_limit x.state.size
  pub commits_soon : IsTrue (is_tracing x.state.phase) → trace_steps run < trace_limit x.state.size

-- THE THEOREM

pub record Theorem : Type 0 where
  -- every run keeps the promise
  pub every_run : {x : World} (run : Run x) → Promise run
  -- after every run every call can be made: there is a right pick
  pub goes_on : (x : World) → (pick : ℕ) × Picks x.state pick
