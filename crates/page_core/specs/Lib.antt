-- The entries of the rows, whether or not they pass the checks. The page itself is defined in `buffer_core`, Page.
pub mod Internal
