-- What a driver borrows from one batch to the next: lists of other capacities, and some rows of the table.
pub mod Lent
