-- What follows from the definitions of the bus.
pub mod Laws
