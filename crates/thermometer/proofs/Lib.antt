mod Codes
mod Steps
pub mod Runs
