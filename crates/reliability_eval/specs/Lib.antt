pub mod Reliability
