pub mod CountLemmas
pub mod UseLemmas
pub mod TableLemmas
pub mod HeldLemmas
pub mod JudgeLemmas
pub mod StandLemmas
pub mod FormulaLemmas
pub mod NameLemmas
