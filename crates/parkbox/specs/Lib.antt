pub mod Parking
pub mod Windows
pub mod Inner
pub mod Laws
pub mod WindowLaws
pub mod BoxRuns
pub mod BoxRunLaws
