-- The ways out of the export.
pub mod FetchingLaws
