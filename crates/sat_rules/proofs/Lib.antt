pub mod Chains
pub mod Members
pub mod Literals
pub mod HintLineFacts
