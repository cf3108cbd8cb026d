pub mod Refusals
pub mod ListErrors
