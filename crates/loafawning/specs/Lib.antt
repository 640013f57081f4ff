pub mod Exported
pub mod Laws
pub mod Alike
