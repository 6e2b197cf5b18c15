-- What the export leaves, from the definition of its public call.
pub mod Fetching
