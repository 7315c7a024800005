-- What follows from the definitions of packed wires.
pub mod Laws
