pub mod Beginnings
pub mod BinaryLines
pub mod FormulaLines
pub mod LratLines
pub mod WrittenClauses
