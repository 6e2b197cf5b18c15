-- The theorem of the short histories: Asked says which lists are asked for, Complete that these are the listed ones.
pub mod Asked
pub mod Complete
