pub mod Stages
pub mod Altering
