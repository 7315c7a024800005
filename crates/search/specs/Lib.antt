pub mod Places
pub mod Words
