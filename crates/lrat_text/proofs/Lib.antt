pub mod WordLemmas
pub mod NumberLemmas
pub mod FirstNumberLemmas
pub mod ItemLemmas
pub mod RowLemmas
pub mod LineLemmas
pub mod ReaderLemmas
pub mod TextRowsFacts
