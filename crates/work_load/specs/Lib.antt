pub mod Kinds
pub mod Lines
pub mod Draws
pub mod Site
pub mod Script
