-- The definitions that the contracts of `big_endian` cite.
pub mod BigEndian
