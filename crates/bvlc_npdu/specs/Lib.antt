pub mod Frame
pub mod ReadingSteps
pub mod Writing
