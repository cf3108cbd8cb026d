pub mod Recipients
pub mod RecipientSteps
