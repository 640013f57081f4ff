-- What the proofs of several functions use.
pub mod Terms
pub mod Scanning
pub mod Sizes
