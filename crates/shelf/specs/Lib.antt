pub mod Shelf
pub mod Fine
pub mod Laws
pub mod Kept
