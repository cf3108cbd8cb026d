pub mod Steps
pub mod Numbers
pub mod Taking
pub mod Finding
pub mod Answering
pub mod Sending
