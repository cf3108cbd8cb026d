pub mod Winners
pub mod Replacing
pub mod Starting
pub mod Searching
pub mod Climbing
pub mod Unused
pub mod Telling
