pub mod Answers
pub mod Claims
pub mod Minimal
pub mod MinimalRuns
pub mod Questions
pub mod Runs
pub mod Texts
pub mod Verdicts
