pub mod Added
pub mod Certified
pub mod Common
pub mod ProofRun
pub mod ReadFault
pub mod Shown
pub mod TextFault
pub mod TextRun
