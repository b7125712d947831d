pub mod DratTexts
pub mod FormulaTexts
pub mod LineForms
pub mod LratBytes
pub mod LratTexts
