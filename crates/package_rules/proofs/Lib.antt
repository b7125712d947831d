pub mod LookUp
pub mod Models
pub mod Refuted
pub mod RowsFacts
