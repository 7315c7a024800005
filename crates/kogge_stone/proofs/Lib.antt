mod Codes
mod Counts
mod Grants
mod Order
