-- The flat list of one parent as a machine, and that it does what the index does (document 02, U9).
pub mod FlatMachine
pub mod SameAsIndex
pub mod Example
