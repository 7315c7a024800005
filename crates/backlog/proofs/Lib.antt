mod Union
pub mod Conservation
