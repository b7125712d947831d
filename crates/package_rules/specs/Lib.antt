pub mod Debian
pub mod Formulas
pub mod LookUps
pub mod Packages
pub mod Rows
