-- What follows from the definitions of a walk along the stations.
pub mod Laws
