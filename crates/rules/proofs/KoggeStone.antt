-- What follows from the definitions of the Kogge-Stone network.
pub mod Laws
pub mod Known
