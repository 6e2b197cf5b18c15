-- A working set: some rows of the segments table, borrowed instead of the whole table.
pub mod Part
pub mod Reads
pub mod Store
pub mod Laws
