-- The definitions that the contracts of `call_session` cite.
pub mod Session
