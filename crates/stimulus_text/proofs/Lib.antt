pub mod ReadingLemmas
pub mod Written
