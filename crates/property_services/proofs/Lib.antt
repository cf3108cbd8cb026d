pub mod References
pub mod Limits
pub mod Ranges
pub mod RangeLaws
pub mod Writes
pub mod Missing
