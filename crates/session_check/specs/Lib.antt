pub mod Reports
pub mod Counts
pub mod Interactions
pub mod Laws
pub mod Lines
pub mod NextLine
pub mod Progress
pub mod Runs
