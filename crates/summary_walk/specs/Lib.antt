-- What the steps of the walk over a summary answer and leave. The walk itself is defined in `summary_core`, Flip.
pub mod Internal
