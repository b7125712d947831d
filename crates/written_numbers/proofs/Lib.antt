pub mod GroupedBytes
pub mod Growths
pub mod SpacedWords
pub mod WrittenWords
