-- The laws of a row written anew and of staging it.
pub mod RewriteLaws
pub mod StageLaws
