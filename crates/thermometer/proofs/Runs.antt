-- What follows from what a run of the walk promises.
pub mod Laws
