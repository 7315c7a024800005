-- What follows from the definitions of the thermometer code.
pub mod Laws
pub mod Cuts
pub mod Running
pub mod Known
