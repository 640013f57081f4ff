-- The theorems that a wrong version of a definition refutes, and those that stand on them.
pub mod TraceLaws
pub mod MoveLaws
pub mod Demand3
pub mod ReplayedLaws
pub mod Examples
pub mod Empty
pub mod BoxLaws
