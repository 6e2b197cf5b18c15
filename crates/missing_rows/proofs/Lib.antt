-- What a call reads, refused or not before its first row.
pub mod CallLaws
pub mod FlipCallLaws
