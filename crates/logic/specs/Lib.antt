pub mod Iff
pub mod Every
