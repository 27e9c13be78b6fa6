-- Runs: every list of calls on a store that began new, over every heap, with the book beside it.
use Rattle.std.specs.Prelude.{◌≡◌, ℕ, suc, ◌≤◌, if◌then◌else◌, ◌≢◌, List, Ok, Err, Result, is_ok, IsOk, IsTrue, nat_lt, None}
use Rattle.refusal.specs.declared.Refusal.{Refusal}
use Rattle.model.specs.declared.Phase.{Phase}
use Rattle.model.specs.declared.Phase.TheVariants.{Tracing, Cleaning}
use Rattle.model.specs.Machine.{upd, colour, is_free, is_tracing, State, new_state, filed}
use Rattle.model.specs.Calls.{store, Call, by, begin, step, Grant}
use Rattle.model.specs.Tables.{room, outcome}
use Rattle.model.specs.Book.{Book, new_book, write, Reached}

-- the store, the book beside it, and where each record of the book stands: its cell, or 0
pub record World : Type 0 where
  pub state : State
  pub book : Book
  pub place : ℕ → ℕ

-- a new store of n cells that allows records of up to w slots, and a new book
abbrev pub new_world : ℕ → ℕ → World
new_world n w = record { state = new_state n w; book = new_book; place = λ r. 0 }

-- a record that a call makes is given the cell that the heap picked ...
abbrev pub given : (ℕ → ℕ) → Book → Book → ℕ → ℕ → ℕ
given place before after pick = if nat_lt before.count after.count then upd place after.count pick else place

-- ... and stands there until that cell is freed
abbrev pub standing : (ℕ → ℕ) → State → ℕ → ℕ
standing place s r = if is_free (s.cell (place r)) then 0 else place r

-- after a granted call
abbrev pub granted : World → Call → ℕ → Grant → World
granted x c pick g = record {
  state = g.after;
  book = write x.book c g.answer;
  place = standing (given x.place x.book (write x.book c g.answer) pick) g.after;
}

-- after a call with an outcome: a refused one changes nothing
abbrev pub next_by : World → Call → ℕ → Result Grant Refusal → World
next_by x c pick (Ok g) = granted x c pick g
next_by x c pick (Err refusal) = x

-- the world after a call
unfoldable pub next : World → Call → ℕ → World
next x c pick = next_by x c pick (outcome x.state c pick)

-- a free cell of the heap
pub record FreeCell (s : State) (c : ℕ) : Type 0 where
  pub lowest : 1 ≤ c
  pub highest : c ≤ s.size
  pub vacant : colour (s.cell c) ≡ None

-- the heap's pick is one of its free cells, if it has any: nothing else is known of it
abbrev pub Picks : State → ℕ → Type 0
Picks s pick = IsTrue (room s) → FreeCell s pick

-- the runs: any calls, in any order, granted or refused
pub data Run : World → Type 0 where
  start : (n w : ℕ) → n ≤ 65535 → Run (new_world n w)
  called : {x : World} → Run x → (c : Call) (pick : ℕ) → Picks x.state pick → Run (next x c pick)

-- from one world to a later one by calls, with a property at every moment, the first and the last included
pub data Through (P : World → Type 0) : World → World → Type 0 where
  now : {x : World} → P x → Through P x x
  more : {x y : World} → Through P x y → (c : Call) (pick : ℕ) → Picks y.state pick → P (next y c pick) → Through P x (next y c pick)

-- from one world to a later one
abbrev pub Later : World → World → Type 0
Later = Through (λ x. Unit {0})

-- no hand reaches a record
abbrev pub Unreached : ℕ → World → Type 0
Unreached r x = Reached x.book r → ⊥

-- a call is the commit: the step after which the white records are lost
pub record Commits (x : World) (c : Call) (pick : ℕ) : Type 0 where
  pub by_step : c ≡ step
  pub before : x.state.phase ≡ Tracing
  pub after : (next x c pick).state.phase ≡ Cleaning

-- a call loses a name: it is on file before and off file after
abbrev pub Loses : World → Call → ℕ → List ℕ → Type 0
Loses x c pick t = (filed x.state t ≢ 0) × (filed (next x c pick).state t ≡ 0)

-- a call was granted
abbrev pub Granted : World → Call → ℕ → Type 0
Granted x c pick = IsOk (outcome x.state c pick)

-- a call is a store of v into slot i of record r
pub data Puts (b : Book) (r i v : ℕ) : Call → Type 0 where
  puts : (j g h : ℕ) → b.holds j g ≡ r → b.holds j h ≡ v → Puts b r i v (by j (store g i h))

-- the last granted store of a run into slot i of record r put v there; or there was none, and v is 0
pub data LastPut (r i : ℕ) : (v : ℕ) (x : World) → Run x → Type 0 where
  never : {n w : ℕ} {small : n ≤ 65535} → LastPut r i 0 (new_world n w) (start n w small)
  this : {v : ℕ} {x : World} {run : Run x} {c : Call} {pick : ℕ} {right : Picks x.state pick} →
      Granted x c pick → Puts x.book r i v c → LastPut r i v (next x c pick) (called run c pick right)
  earlier : {v : ℕ} {x : World} {run : Run x} {c : Call} {pick : ℕ} {right : Picks x.state pick} →
      ((u : ℕ) → Granted x c pick → Puts x.book r i u c → ⊥) → LastPut r i v x run →
      LastPut r i v (next x c pick) (called run c pick right)

-- what a granted call makes of the number of trace steps since the last begin, in a phase
abbrev pub count_call : Call → Phase → ℕ → ℕ
count_call begin p n = 0
count_call step p n = if is_tracing p then suc n else n
count_call _ p n = n

-- the trace steps of a run since the last granted begin
unfoldable pub trace_steps : {x : World} → Run x → ℕ
trace_steps (start n w small) = 0
trace_steps (called {x = y} run c pick right) =
    let old = trace_steps run in if is_ok (outcome y.state c pick) then count_call c y.state.phase old else old
