-- What the steps of a spend with a summary answer and leave. The spend itself is defined in `summary_core`, Flip.
pub mod Internal
