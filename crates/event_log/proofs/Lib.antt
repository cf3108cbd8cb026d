pub mod Looking
pub mod Numbering
mod Places
mod Sequences
mod Latest
