pub mod Positions
pub mod ChoiceLemmas
pub mod UnionLemmas
