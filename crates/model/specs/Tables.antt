-- The tables of all calls: the conditions under which each is granted, and what it then answers and changes.
-- Conditions on the input come before those on the state, and lower refusal numbers before higher ones.
use Rattle.std.specs.Prelude.{ℕ, zero, suc, Bool, true, false, if◌then◌else◌, not, ◌&&◌, ◌||◌, List, [], ◌∷◌, length, replicate, Ok, Err, Result, ◌==◌, nat_le}
use Rattle.std.specs.Result.{result_unwrap_or}
use Rattle.refusal.specs.declared.Reason.TheVariants.{NoSuchHand, WidthTooLarge, WalkTooLong, BufferTooShort, JobNotOpen, AllJobsOpen, NothingHeld, NoSuchSlot, NoFreeCell, NoVacantCard, NotOnFile, CycleRunning, NoCycle, NodsOwed, NoNodOwed, NoCells}
use Rattle.refusal.specs.declared.Refusal.{Refusal}
use Rattle.model.specs.declared.JobState.TheVariants.{Running, Parked}
use Rattle.model.specs.declared.Phase.{Phase}
use Rattle.model.specs.declared.Phase.TheVariants.{Normal, Arming, Scanning, Tracing, Repeat, Cleaning}
use Rattle.model.specs.Machine.{at, upd, first, next_vacant, Cell, used, slots, card_of, is_free, with_slot, Job, is_open, is_running, is_parked, in_phase, among}
use Rattle.model.specs.Machine.{State, hand, held, empty_hands, closed_row, reads_empty, filed, set_cell, with_cards, with_jobs, set_job, set_hand, at_phase}
use Rattle.model.specs.Cycle.{grey_if, new_colour, all_owe, nodded, must_wait, step_from}
use Rattle.model.specs.Calls.{Spelling, text, Action, close, park, wake, nod, make, settle, find, load, store, copy, drop_hand, same, follow, spelling_of}
use Rattle.model.specs.Calls.{Call, by, open_job, begin, step, Answer, done, ticket, found, made, told, spelled, stepped, Grant, Check, need, decide}

-- WHAT CONDITIONS LOOK AT

-- there is such a hand: 1 to 8
abbrev pub hand_ok : ℕ → Bool
hand_ok h = nat_le 1 h && nat_le h 8

-- a record has such a slot: 1 to its width
abbrev pub slot_ok : Cell → ℕ → Bool
slot_ok x i = nat_le 1 i && nat_le i (length (slots x))

-- a name is on file
abbrev pub is_on_file : State → Spelling → Bool
is_on_file s name = not (filed s (text name) == 0)

-- whether a cell is free
abbrev pub room : State → Bool
room s = not (first (λ c. is_free (s.cell c)) 1 s.size == 0)

-- the next vacant card, or 0
abbrev pub vacant_card : State → ℕ
vacant_card s = next_vacant (reads_empty s) s.last_card 512

-- the next vacant job, or 0
abbrev pub vacant_job : State → ℕ
vacant_job s = next_vacant (λ j. not (is_open (s.job j).status)) s.last_job 16

-- follow's walk from a cell, after so many steps: the content of the last slot, or a refusal. Its place is the number
-- of steps already taken where the walk cannot go on, and the number of the failing step where there is no such slot.
unfoldable pub walk : (ℕ → Cell) → ℕ → ℕ → List ℕ → Result ℕ Refusal
walk f c steps [] = Ok c
walk f c steps (i ∷ is) =
    if c == 0 then Err (record { reason = NothingHeld; place = steps })
    else if slot_ok (f c) i then walk f (at (slots (f c)) i) (suc steps) is
    else Err (record { reason = NoSuchSlot; place = suc steps })

-- CONDITIONS

-- a condition that is met: its refusal is never given
abbrev pub met : Check
met = need true NoCells

-- the name settles
abbrev pub settles : Spelling → Check
settles (Ok t) = met
settles (Err reason) = need false reason

-- the hand is 1 to 8
abbrev pub hand_exists : ℕ → Check
hand_exists h = need (hand_ok h) NoSuchHand

-- the width is one that the heap allows
abbrev pub width_allowed : State → ℕ → Check
width_allowed s w = need (nat_le w s.widest) WidthTooLarge

-- the ticket's job is open here and runs (wake's has to be parked)
abbrev pub running : State → ℕ → Check
running s j = need (is_running (s.job j).status) JobNotOpen

-- the hand holds a record
abbrev pub holding : State → ℕ → ℕ → Check
holding s j h = need (not (hand s j h == 0)) NothingHeld

-- ... which has such a slot
abbrev pub has_slot : State → ℕ → ℕ → ℕ → Check
has_slot s j h i = need (slot_ok (held s j h) i) NoSuchSlot

-- the walk ends
abbrev pub walks : Result ℕ Refusal → Check
walks (Ok v) = met
walks (Err refusal) = record { holds = false; otherwise = refusal }

-- the conditions that each call has to meet, in this order
abbrev pub job_checks : State → ℕ → Action → List Check
job_checks s j close = running s j ∷ []
job_checks s j park = running s j ∷ []
job_checks s j wake = need (is_parked (s.job j).status) JobNotOpen ∷ []
job_checks s j nod = running s j ∷ need (s.job j).owes NoNodOwed ∷ []
job_checks s j (make h w) = hand_exists h ∷ width_allowed s w ∷ running s j ∷ need (room s) NoFreeCell ∷ []
-- a cell and a card are wanted only where the name is not on file
job_checks s j (settle name h w) = settles name ∷ hand_exists h ∷ width_allowed s w ∷ running s j ∷
    need (is_on_file s name || room s) NoFreeCell ∷ need (is_on_file s name || not (vacant_card s == 0)) NoVacantCard ∷ []
job_checks s j (find name h) = settles name ∷ hand_exists h ∷ running s j ∷ need (is_on_file s name) NotOnFile ∷ []
job_checks s j (load g i h) = hand_exists g ∷ hand_exists h ∷ running s j ∷ holding s j g ∷ has_slot s j g i ∷ []
job_checks s j (store g i h) = hand_exists g ∷ hand_exists h ∷ running s j ∷ holding s j g ∷ has_slot s j g i ∷ []
job_checks s j (copy g h) = hand_exists g ∷ hand_exists h ∷ running s j ∷ []
job_checks s j (drop_hand h) = hand_exists h ∷ running s j ∷ []
job_checks s j (same g h) = hand_exists g ∷ hand_exists h ∷ running s j ∷ []
job_checks s j (follow g path h) = hand_exists g ∷ hand_exists h ∷ need (nat_le (length path) 64) WalkTooLong ∷ running s j ∷ holding s j g ∷ walks (walk s.cell (hand s j g) 0 path) ∷ []
job_checks s j (spelling_of h n) = hand_exists h ∷ need (nat_le 40 n) BufferTooShort ∷ running s j ∷ holding s j h ∷ []

-- ... and those of the calls without a ticket
abbrev pub checks : State → Call → List Check
checks s (by j a) = job_checks s j a
checks s open_job = need (not (vacant_job s == 0)) AllJobsOpen ∷ []
checks s begin = need (in_phase Normal s.phase) CycleRunning ∷ need (not (s.size == 0)) NoCells ∷ []
checks s step = need (not (in_phase Normal s.phase)) NoCycle ∷ need (not (must_wait s)) NodsOwed ∷ []

-- EFFECTS

-- a job that opens owes no nod, and is armed from ARMING to CLEANING
abbrev pub opened_job : Phase → Job
opened_job p = record { status = Running; armed = among (Arming ∷ Scanning ∷ Tracing ∷ Repeat ∷ Cleaning ∷ []) p; owes = false; hands = empty_hands }

-- a new record, with a card and a width, in the cell that the heap picked
unfoldable pub taken : State → ℕ → ℕ → ℕ → State
taken s pick k w = set_cell s pick (used (new_colour s.phase s.cursor pick) k (replicate w 0))

-- a spelling and its record go onto a card
unfoldable pub filed_on : State → ℕ → List ℕ → ℕ → State
filed_on s k t c = with_cards s (upd s.card k (record { spelling = t; record_at = c })) k

-- find's barrier: a record found goes grey in TRACING and REPEAT, and in SCANNING if the job owes no nod
abbrev pub find_greys : Phase → Bool → Bool
find_greys p owes = among (Tracing ∷ Repeat ∷ []) p || (in_phase Scanning p && not owes)

-- the record in cell c, found, goes into a hand
unfoldable pub found_into : State → ℕ → ℕ → ℕ → State
found_into s j h c = set_hand (grey_if (find_greys s.phase (s.job j).owes) s c) j h c

-- the write barrier of an armed job: the record overwritten goes grey; in ARMING and SCANNING so does the new one
abbrev pub store_greys_new : Phase → Bool
store_greys_new = among (Arming ∷ Scanning ∷ [])

-- ... run by job j
unfoldable pub barrier : State → ℕ → ℕ → ℕ → State
barrier s j old new = grey_if ((s.job j).armed && store_greys_new s.phase) (grey_if (s.job j).armed s old) new

-- slot i of the record in cell c gets v ...
unfoldable pub set_slot : State → ℕ → ℕ → ℕ → State
set_slot s c i v = set_cell s c (with_slot i v (s.cell c))

-- ... after the barrier
unfoldable pub stored : State → ℕ → ℕ → ℕ → ℕ → State
stored s j c i v = set_slot (barrier s j (at (slots (s.cell c)) i) v) c i v

-- the spelling on a card; card 0 has none
abbrev pub text_on : State → ℕ → List ℕ
text_on s zero = []
text_on s (suc k) = (s.card (suc k)).spelling

-- an answer and the store after it
abbrev pub grant : Answer → State → Grant
grant a s = record { answer = a; after = s }

-- settle, told the card that has the name on file, or 0
abbrev pub settle_on : ℕ → State → ℕ → List ℕ → ℕ → ℕ → ℕ → Grant
settle_on (suc k) s j t h w pick = grant found (found_into s j h (s.card (suc k)).record_at)
settle_on zero s j t h w pick = grant made (set_hand (filed_on (taken s pick (vacant_card s) w) (vacant_card s) t pick) j h pick)

-- what each call of a job answers and leaves; `pick` is the free cell that the heap takes, should it be asked for one
abbrev pub job_effect : State → ℕ → Action → ℕ → Grant
job_effect s j close pick = grant done (set_job s j closed_row)
job_effect s j park pick = grant done (set_job s j (record (s.job j) { status = Parked }))
job_effect s j wake pick = grant done (set_job s j (record (s.job j) { status = Running }))
job_effect s j nod pick = grant done (nodded s j)
job_effect s j (make h w) pick = grant done (set_hand (taken s pick 0 w) j h pick)
job_effect s j (settle name h w) pick = settle_on (filed s (text name)) s j (text name) h w pick
job_effect s j (find name h) pick = grant done (found_into s j h (s.card (filed s (text name))).record_at)
job_effect s j (load g i h) pick = grant done (set_hand s j h (at (slots (held s j g)) i))
job_effect s j (store g i h) pick = grant done (stored s j (hand s j g) i (hand s j h))
job_effect s j (copy g h) pick = grant done (set_hand s j h (hand s j g))
job_effect s j (drop_hand h) pick = grant done (set_hand s j h 0)
job_effect s j (same g h) pick = grant (told (hand s j g == hand s j h)) s
job_effect s j (follow g path h) pick = grant done (set_hand s j h (result_unwrap_or (walk s.cell (hand s j g) 0 path) 0))
job_effect s j (spelling_of h n) pick = grant (spelled (text_on s (card_of (held s j h)))) s

-- what each call answers and leaves
abbrev pub effect : State → Call → ℕ → Grant
effect s (by j a) pick = job_effect s j a pick
effect s open_job pick = grant (ticket (vacant_job s)) (with_jobs s (upd s.job (vacant_job s) (opened_job s.phase)) (vacant_job s))
effect s begin pick = grant done (at_phase (all_owe s) Arming 0 0)
effect s step pick = let next = step_from s.phase s in grant (stepped next.phase next.rounds) next

-- the outcome of a call: granted with its effect, or refused, and then nothing changes
unfoldable pub outcome : State → Call → ℕ → Result Grant Refusal
outcome s c pick = decide (checks s c) (effect s c pick)
