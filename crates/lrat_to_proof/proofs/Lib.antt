pub mod HoldingLemmas
pub mod WrittenLemmas
pub mod BegunLemmas
pub mod ConvertedLemmas
pub mod LineLemmas
