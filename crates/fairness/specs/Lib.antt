pub mod Cycles
pub mod Kinds
pub mod Waiting
pub mod Backlog
pub mod Turns
