-- What the functions of `content_order` ask of their callers.
pub mod Internal
