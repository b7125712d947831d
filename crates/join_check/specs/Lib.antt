pub mod Carriers
pub mod Digests
pub mod Hashed
pub mod Parts
pub mod Runs
pub mod Shown
pub mod Texts
pub mod Verdicts
