-- What the steps of a flush ask and give.
pub mod Internal
