pub mod FirstUnknown
pub mod Fronts
pub mod Steps
pub mod Numbers
