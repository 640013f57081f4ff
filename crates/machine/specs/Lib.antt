pub mod Runs
pub mod Machine
pub mod Served
pub mod RunLaws
pub mod Laws
