-- The worked cases of the store. Each is a transcript: line by line a call, and what it gives or the number with which
-- it is refused. Records may have up to 8 slots.
use Rattle.std.specs.Prelude.{◌≡◌, ℕ, zero, suc, true, List, [], ◌∷◌, ◌++◌, map, replicate, Ok, Err, codes, Result}
use Prim.Native.String.{String}
use Rattle.refusal.specs.Numbers.{number_of}
use Rattle.refusal.specs.declared.Refusal.{Refusal}
use Rattle.spelling.specs.Settling.{settle as settled}
use Rattle.model.specs.declared.Phase.TheVariants.{Normal, Scanning, Tracing, Repeat, Cleaning, Parting, Sweeping}
use Rattle.model.specs.Machine.{first, is_free, State, new_state}
use Rattle.model.specs.Calls.{Spelling, park, wake, nod, make, settle, find, load, drop_hand, same, follow, spelling_of}
use Rattle.model.specs.Calls.{Call, by, open_job, begin, step, Answer, done, ticket, found, made, told, spelled, stepped, Grant}
use Rattle.model.specs.Tables.{outcome}
use Rattle.model.specs.Promise.{trace_limit}

-- a line of a transcript; the place of a refusal stands there if it is not 0
infix 70 ◌gives◌ ◌refused◌ ◌refused◌place◌
pub data Line : Type 0 where
  ◌gives◌ : Call → Answer → Line
  ◌refused◌ : Call → ℕ → Line
  ◌refused◌place◌ : Call → ℕ → ℕ → Line

-- the call of a line
abbrev pub call : Line → Call
call (c gives a) = c
call (c refused n) = c
call (c refused n place k) = c

-- the line of a call, from its outcome
abbrev pub refusal_line : Call → ℕ → ℕ → Line
refusal_line c n zero = c refused n
refusal_line c n (suc k) = c refused n place (suc k)

abbrev pub line : Call → Result Grant Refusal → Line
line c (Ok g) = c gives g.answer
line c (Err e) = refusal_line c (number_of e.reason) e.place

-- the store from which the next call goes on: a refused call has changed nothing
abbrev pub left : State → Result Grant Refusal → State
left s (Ok g) = g.after
left s (Err e) = s

-- the cell that the heap picks: here the lowest free one
abbrev pub lowest : State → ℕ
lowest s = first (λ c. is_free (s.cell c)) 1 s.size

-- the transcript of a list of calls
abbrev pub play : State → List Call → List Line
play s [] = []
play s (c ∷ cs) = let o = outcome s c (lowest s) in line c o ∷ play (left s o) cs

-- on a new store of n cells, the calls of a transcript give that transcript
abbrev pub Plays : ℕ → List Line → Type 0
Plays n lines = play (new_state n 8) (map call lines) ≡ lines

-- a name as a caller writes it, settled
abbrev pub name : String → Spelling
name text = settled (codes text)

-- a cycle begins, with job 1 alone, and is ready to trace
abbrev pub to_tracing : List Line
to_tracing =
    begin gives done ∷
    by 1 nod gives done ∷ step gives stepped Scanning 0 ∷
    by 1 nod gives done ∷ step gives stepped Tracing 1 ∷ []

-- a name is filed and its record dropped, and then a cycle begins
abbrev pub dropped_name : List Line
dropped_name =
    open_job gives ticket 1 ∷
    by 1 (settle (name "a") 1 2) gives made ∷
    by 1 (drop_hand 1) gives done ∷
    to_tracing

-- the only cell is taken and its record dropped, and then a cycle goes on until it is ready to sweep: one trace step,
-- which is the commit, and 512 cleaning steps
abbrev pub dropped_record : List Line
dropped_record =
    open_job gives ticket 1 ∷
    by 1 (make 1 2) gives done ∷
    by 1 (make 2 2) refused 24 ∷
    by 1 (drop_hand 1) gives done ∷
    to_tracing ++
    step gives stepped Cleaning 1 ∷
    replicate 511 (step gives stepped Cleaning 1) ++ step gives stepped Parting 1 ∷
    by 1 nod gives done ∷ step gives stepped Sweeping 1 ∷ []

-- so many jobs are opened
abbrev pub opened : ℕ → List Line
opened zero = []
opened (suc n) = opened n ++ open_job gives ticket (suc n) ∷ []

pub record StoreCases : Type 0 where
  -- two spellings of one name give one record; an unnamed one has no spelling; a walk tells how far it came
  pub one_name : Plays 2 (
      open_job gives ticket 1 ∷
      by 1 (settle (name "Art/Rock") 1 2) gives made ∷
      by 1 (settle (name "art\\rock") 2 2) gives found ∷
      by 1 (same 1 2) gives told true ∷
      by 1 (spelling_of 2 40) gives spelled (codes "art/rock") ∷
      by 1 (make 3 2) gives done ∷
      by 1 (spelling_of 3 40) gives spelled [] ∷
      by 1 (follow 1 (1 ∷ 2 ∷ []) 3) refused 22 place 1 ∷
      by 1 (follow 1 (3 ∷ []) 3) refused 23 place 1 ∷ [])
  -- nothing is greyed: the second trace step is the commit, and the name is lost
  pub lost : Plays 2 (dropped_name ++
      step gives stepped Tracing 1 ∷ step gives stepped Cleaning 1 ∷
      by 1 (find (name "a") 1) refused 26 ∷ [])
  -- a find before the first trace step: the fourth is the commit, and the name is kept
  pub found_first : Plays 2 (dropped_name ++
      by 1 (find (name "a") 1) gives done ∷
      step gives stepped Repeat 1 ∷ step gives stepped Tracing 2 ∷
      step gives stepped Tracing 2 ∷ step gives stepped Cleaning 2 ∷
      by 1 (find (name "a") 1) gives done ∷ [])
  -- a find of a record already passed: the sixth is the commit
  pub found_late : Plays 2 (dropped_name ++
      step gives stepped Tracing 1 ∷
      by 1 (find (name "a") 1) gives done ∷ step gives stepped Tracing 2 ∷
      step gives stepped Repeat 2 ∷ step gives stepped Tracing 3 ∷
      step gives stepped Tracing 3 ∷ step gives stepped Cleaning 3 ∷
      by 1 (find (name "a") 1) gives done ∷ [])
  -- the most trace steps that two cells may take
  pub bound : trace_limit 2 ≡ 10
  -- a name that was found is kept, though no hand holds its record at the commit
  pub found_and_dropped : Plays 2 (dropped_name ++
      by 1 (find (name "a") 1) gives done ∷ by 1 (drop_hand 1) gives done ∷
      step gives stepped Repeat 1 ∷ step gives stepped Tracing 2 ∷
      step gives stepped Tracing 2 ∷ step gives stepped Cleaning 2 ∷
      by 1 (find (name "a") 1) gives done ∷ [])
  -- the sweep step frees the cell, and nothing before it does
  pub swept : Plays 1 (dropped_record ++ step gives stepped Normal 1 ∷ by 1 (make 1 2) gives done ∷ [])
  pub not_yet_swept : Plays 1 (dropped_record ++ by 1 (make 1 2) refused 24 ∷ [])
  -- each refusal has its number; where two apply, the one tested first is given
  pub refusals : Plays 1 (
      open_job gives ticket 1 ∷
      by 1 (make 9 2) refused 5 ∷
      by 1 (make 1 9) refused 6 ∷
      by 2 (make 1 2) refused 20 ∷
      by 1 (find (name "/") 9) refused 3 ∷
      by 1 (find (name "a") 1) refused 26 ∷
      by 1 (load 1 1 2) refused 22 ∷
      by 1 (make 1 2) gives done ∷
      by 1 (load 1 3 2) refused 23 ∷
      by 1 (spelling_of 1 39) refused 8 ∷
      by 1 (follow 1 (replicate 65 1) 2) refused 7 ∷
      by 1 nod refused 30 ∷
      step refused 28 ∷
      by 1 park gives done ∷ by 1 (drop_hand 1) refused 20 ∷ by 1 wake gives done ∷
      begin gives done ∷ begin refused 27 ∷ step refused 29 ∷ [])
  pub no_cells : Plays 0 (begin refused 31 ∷ [])
  pub all_jobs_open : Plays 1 (opened 16 ++ open_job refused 21 ∷ [])
