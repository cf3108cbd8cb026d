pub mod Requests
pub mod Refusals
pub mod RequestSteps
pub mod Summaries
pub mod ManyRequests
pub mod ManySteps
pub mod ManyRefusals
pub mod Many
