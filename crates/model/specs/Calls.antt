-- The seventeen calls, what they answer, and how a call is granted or refused.
use Rattle.std.specs.Prelude.{ℕ, Bool, if◌then◌else◌, List, [], ◌∷◌, Ok, Err, Result}
use Rattle.refusal.specs.declared.Reason.{Reason}
use Rattle.refusal.specs.declared.Refusal.{Refusal}
use Rattle.model.specs.declared.Phase.{Phase}
use Rattle.model.specs.Machine.{State}

-- a spelling as settling leaves it: the settled text, or why there is none
abbrev pub Spelling : Type 0
Spelling = Result (List ℕ) Reason

-- the settled text
abbrev pub text : Spelling → List ℕ
text (Ok t) = t
text (Err reason) = []

-- the calls of a job. Hands, slots and widths are the caller's numbers, of any size.
pub data Action : Type 0 where
  close park wake nod : Action
  make : (into width : ℕ) → Action
  settle : (name : Spelling) (into width : ℕ) → Action
  find : (name : Spelling) (into : ℕ) → Action
  load : (from slot into : ℕ) → Action
  store : (of slot from : ℕ) → Action
  copy : (from into : ℕ) → Action
  drop_hand : (hand : ℕ) → Action
  same : (one other : ℕ) → Action
  follow : (from : ℕ) (path : List ℕ) (into : ℕ) → Action
  -- the room is the length of the caller's buffer
  spelling_of : (hand room : ℕ) → Action

-- a call: one by the job whose ticket is shown, or one that needs no ticket
pub data Call : Type 0 where
  by : (job : ℕ) → Action → Call
  open_job begin step : Call

-- what a granted call answers
pub data Answer : Type 0 where
  done : Answer
  -- open: the number of the job that the new ticket is for
  ticket : ℕ → Answer
  -- settle
  found made : Answer
  -- same
  told : Bool → Answer
  -- spelling: the text, empty for an unnamed record
  spelled : List ℕ → Answer
  -- step: the phase after it, and the rounds begun in this cycle
  stepped : Phase → ℕ → Answer

-- a call that is granted: what it answers, and the store after it
pub record Grant : Type 0 where
  pub answer : Answer
  pub after : State

-- a condition of a call, and the refusal where it does not hold
pub record Check : Type 0 where
  pub holds : Bool
  pub otherwise : Refusal

-- a condition refused for a reason, at place 0
abbrev pub need : Bool → Reason → Check
need test reason = record { holds = test; otherwise = record { reason = reason; place = 0 } }

-- the first condition that does not hold decides; where all hold, the call is granted
abbrev pub decide : List Check → Grant → Result Grant Refusal
decide [] g = Ok g
decide (c ∷ cs) g = if c.holds then decide cs g else Err c.otherwise
