pub mod Causes
pub mod Formulas
pub mod Machines
pub mod Places
