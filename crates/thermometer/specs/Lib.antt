pub mod Adder
pub mod Runs
