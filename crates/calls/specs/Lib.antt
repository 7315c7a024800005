pub mod Calls
pub mod EveryCall
pub mod Messages
