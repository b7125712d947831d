pub mod WrittenLines
pub mod WrittenRuns
pub mod WrittenSteps
pub mod WrittenTexts
