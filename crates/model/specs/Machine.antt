-- The store as an abstract machine: what it holds, and how that is read and changed.
-- Cells, cards and jobs are tables: functions from numbers, counted from 1. Slots and hands are lists, counted from 1.
-- Where a number names a cell, a card or a job, 0 names none.
use Rattle.std.specs.Prelude.{ℕ, zero, suc, ◌-◌, Bool, true, false, if◌then◌else◌, not, ◌&&◌, ◌||◌, List, [], ◌∷◌, slice_index_or, slice_set, bytes_eq, ◌==◌, Option, Some, None}
use Rattle.std.specs.List.{list_any}
use Rattle.model.specs.declared.Colour.{Colour}
use Rattle.model.specs.declared.Colour.TheVariants.{White, Grey}
use Rattle.model.specs.declared.JobState.{JobState}
use Rattle.model.specs.declared.JobState.TheVariants.{Closed, Running, Parked}
use Rattle.model.specs.declared.Phase.{Phase}
use Rattle.model.specs.declared.Phase.TheVariants.{Normal, Arming, Scanning, Tracing, Repeat, Cleaning, Parting, Sweeping}

-- LISTS AND TABLES

-- item i of a list, counted from 1; 0 outside
abbrev pub at : List ℕ → ℕ → ℕ
at l zero = 0
at l (suc i) = slice_index_or l i 0

-- a list with item i, counted from 1, changed
abbrev pub put : List ℕ → ℕ → ℕ → List ℕ
put l zero v = l
put l (suc i) v = slice_set l i v

-- a table with one entry changed
abbrev pub upd : {A : Type 0} → (ℕ → A) → ℕ → A → ℕ → A
upd f i v j = if i == j then v else f j

-- the first of n places, from a on, that passes a test, or 0
unfoldable pub first : (ℕ → Bool) → ℕ → ℕ → ℕ
first test a zero = 0
first test a (suc n) = let rest = first test (suc a) n in if test a then a else rest

-- a number, or another if it is 0
abbrev pub or_else : ℕ → ℕ → ℕ
or_else zero b = b
or_else (suc a) b = suc a

-- the next vacant of n places: the first one after the last one taken, going round past the end, or 0
unfoldable pub next_vacant : (ℕ → Bool) → ℕ → ℕ → ℕ
next_vacant vacant last n = or_else (first vacant (suc last) (n - last)) (first vacant 1 last)

-- CELLS

-- a cell: free, or a record with its colour, the card that names it (0 for an unnamed one) and its slots
pub data Cell : Type 0 where
  free : Cell
  used : Colour → ℕ → List ℕ → Cell

-- a record's colour; a free cell has none
abbrev pub colour : Cell → Option Colour
colour free = None
colour (used c k l) = Some c

-- the card that names a record
abbrev pub card_of : Cell → ℕ
card_of free = 0
card_of (used c k l) = k

-- a record's slots, each with the number of a cell; their number is its width
abbrev pub slots : Cell → List ℕ
slots free = []
slots (used c k l) = l

-- whether a cell is free, holds a white record, or a grey one
abbrev pub is_free : Cell → Bool
is_free free = true
is_free (used c k l) = false

abbrev pub is_white : Cell → Bool
is_white (used White k l) = true
is_white _ = false

abbrev pub is_grey : Cell → Bool
is_grey (used Grey k l) = true
is_grey _ = false

-- a record with another colour
abbrev pub painted : Colour → Cell → Cell
painted c free = free
painted c (used old k l) = used c k l

-- a record with one slot changed
abbrev pub with_slot : ℕ → ℕ → Cell → Cell
with_slot i v free = free
with_slot i v (used c k l) = used c k (put l i v)

-- CARDS, JOBS, PHASES

-- a card files a name: a settled spelling, and the cell of the record that bears it, or 0
pub record Card : Type 0 where
  pub spelling : List ℕ
  pub record_at : ℕ

-- a job: a mutator of the heap. Its eight hands are its roots, each with the number of a cell. A nod is its part in a
-- handshake with the collector, owed from the start of each phase that waits for nods. Armed, its stores run the
-- write barrier.
pub record Job : Type 0 where
  pub status : JobState
  pub armed : Bool
  pub owes : Bool
  pub hands : List ℕ

-- tests on a job's status; a job is open if it runs or is parked
abbrev pub is_running : JobState → Bool
is_running Running = true
is_running _ = false

abbrev pub is_parked : JobState → Bool
is_parked Parked = true
is_parked _ = false

abbrev pub is_open : JobState → Bool
is_open Closed = false
is_open _ = true

-- whether two phases are the same
abbrev pub in_phase : Phase → Phase → Bool
in_phase Normal Normal = true
in_phase Arming Arming = true
in_phase Scanning Scanning = true
in_phase Tracing Tracing = true
in_phase Repeat Repeat = true
in_phase Cleaning Cleaning = true
in_phase Parting Parting = true
in_phase Sweeping Sweeping = true
in_phase _ _ = false

-- whether phase p is one of some
abbrev pub among : List Phase → Phase → Bool
among phases p = list_any (λ q. in_phase q p) phases

-- the phases in which trace steps visit cells
abbrev pub is_tracing : Phase → Bool
is_tracing = among (Tracing ∷ Repeat ∷ [])

-- THE STORE

-- the number of cells and the widest record; the tables; where the cycle stands (the cursor is the cell or card that
-- the next step visits) and how many rounds of tracing it has begun; the card and the job taken last
pub record State : Type 0 where
  pub size : ℕ
  pub widest : ℕ
  pub cell : ℕ → Cell
  pub card : ℕ → Card
  pub job : ℕ → Job
  pub phase : Phase
  pub cursor : ℕ
  pub rounds : ℕ
  pub last_card : ℕ
  pub last_job : ℕ

-- eight empty hands
abbrev pub empty_hands : List ℕ
empty_hands = 0 ∷ 0 ∷ 0 ∷ 0 ∷ 0 ∷ 0 ∷ 0 ∷ 0 ∷ []

-- the row of a job that is not open
abbrev pub closed_row : Job
closed_row = record { status = Closed; armed = false; owes = false; hands = empty_hands }

-- a new store over a heap of n cells that allows records of up to w slots
abbrev pub new_state : ℕ → ℕ → State
new_state n w = record {
  size = n;
  widest = w;
  cell = λ c. free;
  card = λ k. record { spelling = []; record_at = 0 };
  job = λ j. closed_row;
  phase = Normal;
  cursor = 0;
  rounds = 0;
  last_card = 0;
  last_job = 0;
}

-- what hand h of job j holds ...
abbrev pub hand : State → ℕ → ℕ → ℕ
hand s j h = at (s.job j).hands h

-- ... and the cell of that number
abbrev pub held : State → ℕ → ℕ → Cell
held s j h = s.cell (hand s j h)

-- a card reads as empty, and is vacant, if it files nothing, or if in CLEANING its record is white: the commit has
-- lost that name, and the card is yet to be cleared
abbrev pub reads_empty : State → ℕ → Bool
reads_empty s k = (s.card k).record_at == 0 || (in_phase Cleaning s.phase && is_white (s.cell (s.card k).record_at))

-- whether card k has a spelling on file
abbrev pub bears : State → List ℕ → ℕ → Bool
bears s text k = not (reads_empty s k) && bytes_eq (s.card k).spelling text

-- the card that has a spelling on file, or 0 if it is off file
unfoldable pub filed : State → List ℕ → ℕ
filed s text = first (bears s text) 1 512

-- THE STORE WITH ONE PART CHANGED

-- ... with other cells
abbrev pub with_cells : State → (ℕ → Cell) → State
with_cells s f = record s { cell = f }

-- ... with one other cell
abbrev pub set_cell : State → ℕ → Cell → State
set_cell s c x = with_cells s (upd s.cell c x)

-- ... with other cards, and the one taken last
abbrev pub with_cards : State → (ℕ → Card) → ℕ → State
with_cards s f last = record s { card = f; last_card = last }

-- ... with other jobs, and the one opened last
abbrev pub with_jobs : State → (ℕ → Job) → ℕ → State
with_jobs s f last = record s { job = f; last_job = last }

-- ... with one other job
abbrev pub set_job : State → ℕ → Job → State
set_job s j row = with_jobs s (upd s.job j row) s.last_job

-- ... with one hand of one job changed
abbrev pub set_hand : State → ℕ → ℕ → ℕ → State
set_hand s j h v = set_job s j (record (s.job j) { hands = put (s.job j).hands h v })

-- ... in a phase, at a cursor, in a round
abbrev pub at_phase : State → Phase → ℕ → ℕ → State
at_phase s p cursor rounds = record s { phase = p; cursor = cursor; rounds = rounds }
