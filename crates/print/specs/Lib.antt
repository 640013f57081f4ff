pub mod Print
pub mod Writing
pub mod Longest
pub mod Spelling
pub mod Shortest
pub mod Laws
