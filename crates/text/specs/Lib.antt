pub mod Characters
pub mod Output
