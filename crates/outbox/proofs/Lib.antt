mod Fronts
mod Pumping
mod Laws
pub mod Standing
mod PlaceLemmas
pub mod Keeping
mod Answering
mod Going
mod Settling
pub mod Making
pub mod Learning
mod Finished
mod Counting
mod Sending
mod Silent
mod Tested
mod Idling
mod Told
mod QueueLemmas
pub mod QueueKeeping
mod Fullness
