pub mod FlagLemmas
pub mod Keeping
pub mod Order
pub mod Places
pub mod Taking
pub mod Accepting
