pub mod ModelLemmas
pub mod VerdictLemmas
