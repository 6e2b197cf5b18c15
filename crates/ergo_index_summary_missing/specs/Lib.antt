-- What each export leaves, from the definition of its public call.
pub mod Missing
