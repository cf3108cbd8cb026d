pub mod Recipients
pub mod Windows
pub mod Chosen
pub mod Edits
