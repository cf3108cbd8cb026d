pub mod Requests
pub mod Refusals
pub mod RequestSteps
pub mod Elements
pub mod Edits
pub mod EditSteps
