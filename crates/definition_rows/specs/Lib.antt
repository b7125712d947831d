pub mod AnswerRows
pub mod ChainRows
pub mod CubeRows
pub mod FoldRows
pub mod FormulaRows
pub mod ModelRows
