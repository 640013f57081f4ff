-- What the proofs of several functions use; and the theorems of the starred table, with the tests that they compute.
pub mod Ranges
pub mod Fronts
pub mod Gathering
pub mod Decide
pub mod StarredLaws
