pub mod Refusals
pub mod Questions
pub mod Decisions
pub mod Answers
pub mod Cycle
pub mod Theorems
