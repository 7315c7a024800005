-- The laws of the rules.
pub mod RoundRobin
pub mod Walk
pub mod Tree
pub mod Thermometer
pub mod KoggeStone
pub mod Packing
pub mod Bus
pub mod Pending
