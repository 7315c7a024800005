pub mod Runs
pub mod Readings
