pub mod Order
pub mod Conditions
pub mod Heads
pub mod Laws
