pub mod Requests
pub mod Granted
pub mod Effects
pub mod Parts
pub mod Laws
pub mod Small
