-- The collector's cycle: greying, the colour of new records, nods, and what a step does.
-- NORMAL, then ARMING and SCANNING (handshakes), TRACING and REPEAT (marking), CLEANING (cards), PARTING (a handshake),
-- SWEEPING (freeing), and NORMAL again.
use Rattle.std.specs.Prelude.{ℕ, zero, suc, Bool, true, false, if◌then◌else◌, not, ◌&&◌, List, [], ◌∷◌, ◌==◌, nat_lt}
use Rattle.model.specs.declared.Colour.{Colour}
use Rattle.model.specs.declared.Colour.TheVariants.{White, Grey, Black}
use Rattle.model.specs.declared.JobState.{JobState}
use Rattle.model.specs.declared.Phase.{Phase}
use Rattle.model.specs.declared.Phase.TheVariants.{Normal, Arming, Scanning, Tracing, Repeat, Cleaning, Parting, Sweeping}
use Rattle.model.specs.Machine.{upd, first, Cell, free, used, slots, is_white, is_grey, painted, Job, is_open, is_running, is_parked, in_phase, among}
use Rattle.model.specs.Machine.{State, with_cells, set_cell, with_cards, with_jobs, set_job, at_phase}

-- GREYING, AND THE COLOUR OF NEW RECORDS

-- a white record becomes grey; every other cell stays
abbrev pub greyed : Cell → Cell
greyed (used White k l) = used Grey k l
greyed x = x

-- every cell of a list is greyed
unfoldable pub grey_all : (ℕ → Cell) → List ℕ → ℕ → Cell
grey_all f [] = f
grey_all f (v ∷ vs) = grey_all (upd f v (greyed (f v))) vs

-- a record that turns grey in TRACING may lie behind the cursor, so the phase becomes REPEAT: one more round
abbrev pub repeating : Phase → Phase
repeating Tracing = Repeat
repeating p = p

-- a call greys one cell, if a test passes
abbrev pub grey_if : Bool → State → ℕ → State
grey_if test s c = at_phase (with_cells s (if test then upd s.cell c (greyed (s.cell c)) else s.cell))
    (if test && is_white (s.cell c) then repeating s.phase else s.phase) s.cursor s.rounds

-- a new record is white in NORMAL and ARMING, and in SWEEPING if its cell was already visited; otherwise black
abbrev pub new_colour : Phase → ℕ → ℕ → Colour
new_colour Normal cursor c = White
new_colour Arming cursor c = White
new_colour Sweeping cursor c = if nat_lt c cursor then White else Black
new_colour _ cursor c = Black

-- HANDSHAKES

-- on entry to a phase that waits for nods every open job owes one
abbrev pub all_owe : State → State
all_owe s = with_jobs s (λ j. record (s.job j) { owes = is_open (s.job j).status }) s.last_job

-- a nod in ARMING arms the job, and one in PARTING disarms it
abbrev pub armed_after : Phase → Bool → Bool
armed_after Arming armed = true
armed_after Parting armed = false
armed_after _ armed = armed

-- a job after its nod
abbrev pub nodded_job : Phase → Job → Job
nodded_job p row = record row { armed = armed_after p row.armed; owes = false }

-- the store after a nod of job j: in SCANNING what its hands hold becomes grey
unfoldable pub nodded : State → ℕ → State
nodded s j = set_job (with_cells s (if in_phase Scanning s.phase then grey_all s.cell (s.job j).hands else s.cell)) j (nodded_job s.phase (s.job j))

-- whether job j owes a nod and its status passes a test
abbrev pub owes_as : (JobState → Bool) → State → ℕ → Bool
owes_as test s j = test (s.job j).status && (s.job j).owes

-- the lowest-numbered of such jobs, or 0
abbrev pub owing : (JobState → Bool) → State → ℕ
owing test s = first (owes_as test s) 1 16

-- a step must wait: nods are owed, and by running jobs alone
abbrev pub must_wait : State → Bool
must_wait s = among (Arming ∷ Scanning ∷ Parting ∷ []) s.phase && (owing is_parked s == 0 && not (owing is_running s == 0))

-- a step nods for job j, or moves on if j is 0
abbrev pub nod_or : ℕ → State → State → State
nod_or zero s next = next
nod_or (suc j) s next = nodded s (suc j)

-- a step in a phase that waits: it nods for a parked job that owes; if there is none, it moves on
abbrev pub handshake : State → State → State
handshake s next = nod_or (owing is_parked s) s next

-- STEPS

-- the cursor moves to the next place
abbrev pub onward : State → State
onward s = at_phase s s.phase (suc s.cursor) s.rounds

-- a trace step at a grey record: what its slots hold becomes grey and it becomes black
unfoldable pub scanned : State → State
scanned s = at_phase (set_cell (with_cells s (grey_all s.cell (slots (s.cell s.cursor)))) s.cursor
    (painted Black (grey_all s.cell (slots (s.cell s.cursor)) s.cursor))) Repeat s.cursor s.rounds

-- the visit of the cell at the cursor by a trace step
abbrev pub traced : State → State
traced s = if is_grey (s.cell s.cursor) then scanned s else s

-- after the last cell: a round that greyed nothing is followed by CLEANING, and this step is the commit; any other by
-- a new round
abbrev pub round_end : State → State
round_end s = if in_phase Tracing s.phase then at_phase s Cleaning 1 s.rounds else at_phase s Tracing 1 (suc s.rounds)

-- a trace step goes on to the next cell
abbrev pub trace_on : State → State
trace_on s = if nat_lt s.cursor s.size then onward s else round_end s

-- the card at the cursor is cleared
abbrev pub cleared : State → State
cleared s = with_cards s (upd s.card s.cursor (record (s.card s.cursor) { record_at = 0 })) s.last_card

-- a step in CLEANING clears the card at the cursor if its record is white
abbrev pub cleaned : State → State
cleaned s = if is_white (s.cell (s.card s.cursor).record_at) then cleared s else s

-- it goes on to the next card; after the last one comes PARTING
abbrev pub clean_on : State → State
clean_on s = if nat_lt s.cursor 512 then onward s else at_phase (all_owe s) Parting 0 s.rounds

-- a step in SWEEPING frees a white record and makes a black one white
abbrev pub swept_cell : Cell → Cell
swept_cell (used White k l) = free
swept_cell (used Black k l) = used White k l
swept_cell x = x

-- ... in the store, at the cursor
abbrev pub swept : State → State
swept s = set_cell s s.cursor (swept_cell (s.cell s.cursor))

-- it goes on to the next cell; after the last one comes NORMAL, and the cycle ends
abbrev pub sweep_on : State → State
sweep_on s = if nat_lt s.cursor s.size then onward s else at_phase s Normal 0 s.rounds

-- what a step does, by phase; in NORMAL, and where it must wait, it is refused
abbrev pub step_from : Phase → State → State
step_from Normal s = s
step_from Arming s = handshake s (at_phase (all_owe s) Scanning 0 s.rounds)
step_from Scanning s = handshake s (at_phase s Tracing 1 1)
step_from Tracing s = trace_on (traced s)
step_from Repeat s = trace_on (traced s)
step_from Cleaning s = clean_on (cleaned s)
step_from Parting s = handshake s (at_phase s Sweeping 1 s.rounds)
step_from Sweeping s = sweep_on (swept s)
