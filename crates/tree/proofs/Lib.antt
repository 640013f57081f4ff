-- What the proofs of several functions use; `Opened` is for the crates above too.
pub mod Rising
pub mod Opened
