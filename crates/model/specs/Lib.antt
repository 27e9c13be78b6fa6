-- What a reader must believe, in the order of reading: the machine, its collector's cycle, the calls, their tables, the
-- book, runs, and the promise.
pub mod Machine
pub mod Cycle
pub mod Calls
pub mod Tables
pub mod Book
pub mod Runs
pub mod Promise
