pub mod Properties
pub mod Devices
pub mod DeviceProperties
pub mod ClassProperties
pub mod LogProperties
pub mod Texts
pub mod Reading
