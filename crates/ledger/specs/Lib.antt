-- The ledger, the history rules, and a run of a list of calls, undos and flushes. Read Calls, Ledger and Run; Decide has the tests of equality.
pub mod Calls
pub mod Decide
pub mod Ledger
pub mod Run
