pub mod Answered
pub mod Claims
pub mod Reached
pub mod Reads
pub mod Runs
pub mod Verdicts
