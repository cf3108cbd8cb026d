pub mod Histories
pub mod Passes
pub mod ViewSteps
pub mod RuleSteps
pub mod Steps
