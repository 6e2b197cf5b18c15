pub mod Outcomes
pub mod Places
pub mod Searches
pub mod CallLaws
pub mod FetchLaws
pub mod FlushLaws
pub mod WorkingSets
