pub mod GroupedBytes
pub mod Growing
pub mod Words
