pub mod Counts
pub mod Keeps
pub mod Seats
pub mod Shares
pub mod Showing
pub mod Stages
pub mod Wholes
