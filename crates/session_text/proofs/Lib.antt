pub mod ReadingLemmas
pub mod Words
pub mod Steps
pub mod BinaryLines
pub mod Spots
pub mod LineEnds
pub mod LineBytes
pub mod Lines
