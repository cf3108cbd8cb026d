pub mod SameLists
pub mod Parts
pub mod Listing
pub mod ElementParts
pub mod Readings
pub mod Firsts
pub mod Changes
pub mod EditLaws
