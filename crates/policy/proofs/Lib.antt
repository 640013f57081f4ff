pub mod Slots
pub mod Test
pub mod Trees
