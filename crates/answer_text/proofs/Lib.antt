pub mod ConsistencyLemmas
pub mod ReadingLemmas
pub mod Words
pub mod Statuses
pub mod Lines
