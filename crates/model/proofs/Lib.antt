-- Why every run keeps the promise, from the bottom up; docs/PROMISE.md tells it in words.
-- Many lemmas are proved by cases though `grind` finds them: a search that fails takes long, and tests/planted makes
-- them fail 78 times (docs/DECISIONS.md).

-- laws of tables, searches and texts; the invariant; arguments by phase and by colour
pub mod TableLaws
pub mod Invariant
pub mod PhaseCases
pub mod Colours
-- what each single change of the store keeps of the invariant
pub mod Carried
pub mod JobRowsKeep
pub mod GreyingKeeps
pub mod BarrierKeeps
pub mod TakingKeeps
pub mod SlotWriteKeeps
pub mod PhaseMoves
pub mod TraceVisit
pub mod CardVisit
pub mod SweepVisit
-- every call keeps it, and so does every run
pub mod Granted
pub mod CardsRead
pub mod JobCallsKeep
pub mod NamesKeep
pub mod StoreKeeps
pub mod StepsKeep
pub mod RunsKeep
-- what a call may change of names, marks and edges
pub mod CallsByEffect
pub mod CallChanges
pub mod StepChanges
-- the parts of the promise, and the promise
pub mod StoreAgrees
pub mod SlotsAreLastPut
pub mod NamesGoAtCommit
pub mod UnreachedIsFreed
pub mod Weight
pub mod CommitBound
pub mod CommitsOnce
pub mod PromiseKept
