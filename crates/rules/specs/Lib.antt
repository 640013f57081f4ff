pub mod Rules
pub mod AtHand
pub mod Laws
