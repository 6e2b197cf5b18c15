pub mod EntryLaws
pub mod ReadLaws
pub mod ServerLaws
pub mod CopyLaws
pub mod SmallCopies
