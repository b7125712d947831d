pub mod Clauses
pub mod HintLines
pub mod Named
