mod AnswerFacts
mod ChainFacts
mod CubeFacts
mod FoldFacts
mod FormulaFacts
mod ModelFacts
