pub mod Headers
pub mod ReadingSteps
pub mod Writing
