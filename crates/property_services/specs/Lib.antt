pub mod Requests
pub mod ReadingSteps
pub mod Refusals
pub mod Writing
