pub mod Lines
pub mod FirstLine
pub mod Cycles
pub mod Text
