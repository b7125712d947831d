pub mod Writing
pub mod WrittenRuns
pub mod WrittenText
pub mod WrittenTexts
