-- The index of the fork-undo theorem, what it asks of an edition, the theorem, what holds beside it, and histories that show that its premises can be met.
pub mod Index
pub mod Machine
pub mod EditionLaws
pub mod ForkUndo
pub mod Sound
pub mod Example
