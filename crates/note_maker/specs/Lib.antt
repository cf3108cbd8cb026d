pub mod Notes
pub mod EventTypes
pub mod Told
pub mod Shapes
