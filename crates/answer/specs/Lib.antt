pub mod Numbers
pub mod Answers
pub mod Faults
pub mod Laws
pub mod Lists
