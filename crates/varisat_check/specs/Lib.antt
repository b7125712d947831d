pub mod LratRuns
pub mod ReadFormula
pub mod Runs
pub mod Verdicts
