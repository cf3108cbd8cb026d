pub mod EventTypes
pub mod Facts
pub mod Rules
pub mod Matches
pub mod SameValue
pub mod Conditions
