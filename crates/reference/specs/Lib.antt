pub mod Count
pub mod Turns
pub mod Codes
