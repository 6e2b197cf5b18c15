-- What the steps of a flush ask and give at the table.
pub mod Internal
