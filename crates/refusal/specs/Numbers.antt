-- The number of each refusal, case by case.
use Rattle.std.specs.Prelude.{ℕ}
use Rattle.refusal.specs.declared.Reason.{Reason}
use Rattle.refusal.specs.declared.Reason.TheVariants.{TextTooLong, ByteNotAllowed, SettledEmpty, SettledTooLong, NoSuchHand, WidthTooLarge, WalkTooLong, BufferTooShort, JobNotOpen, AllJobsOpen, NothingHeld, NoSuchSlot, NoFreeCell, NoVacantCard, NotOnFile, CycleRunning, NoCycle, NodsOwed, NoNodOwed, NoCells}

abbrev pub number_of : Reason → ℕ
-- from the input
number_of TextTooLong = 1
number_of ByteNotAllowed = 2
number_of SettledEmpty = 3
number_of SettledTooLong = 4
number_of NoSuchHand = 5
number_of WidthTooLarge = 6
number_of WalkTooLong = 7
number_of BufferTooShort = 8
-- from the state of the store
number_of JobNotOpen = 20
number_of AllJobsOpen = 21
number_of NothingHeld = 22
number_of NoSuchSlot = 23
number_of NoFreeCell = 24
number_of NoVacantCard = 25
number_of NotOnFile = 26
number_of CycleRunning = 27
number_of NoCycle = 28
number_of NodsOwed = 29
number_of NoNodOwed = 30
number_of NoCells = 31
