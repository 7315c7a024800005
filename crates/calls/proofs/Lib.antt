pub mod EveryCall
pub mod Places
pub mod Conservation
