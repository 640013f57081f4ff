pub mod Lines
pub mod Writing
pub mod Laws
pub mod Lengths
