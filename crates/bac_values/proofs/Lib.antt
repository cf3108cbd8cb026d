pub mod Orders
pub mod OrderLemmas
pub mod Placing
pub mod Inserting
