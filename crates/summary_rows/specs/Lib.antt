-- What the steps of making a summary leave. Making it is defined in `summary_core`, Making.
pub mod Internal
