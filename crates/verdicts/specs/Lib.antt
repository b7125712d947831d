pub mod Pieces
pub mod Statuses
pub mod Verdicts
pub mod Texts
