pub mod Subtrees
pub mod Steps
pub mod Calls
