pub mod LratLemmas
pub mod ReadFormulaLemmas
pub mod VerdictLemmas
