-- What follows from the definitions of the round-robin rule.
pub mod Laws
