pub mod Box
pub mod Inner
pub mod Laws
pub mod Calls
