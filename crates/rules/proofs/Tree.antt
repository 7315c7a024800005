-- What follows from the definitions of the tree.
pub mod Laws
