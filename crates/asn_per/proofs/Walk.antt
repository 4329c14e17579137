-- CHOICE, SEQUENCE and the other parts of PER, as the walk over all types puts them together.
pub mod WalkLaws
pub mod WalkChoices
pub mod WalkSequences
pub mod WalkWriting
