pub mod CanonicalLists
pub mod Columns
pub mod Headlines
pub mod InBoxes
pub mod Marks
pub mod Proving
pub mod Rising
pub mod SubsetWalks
