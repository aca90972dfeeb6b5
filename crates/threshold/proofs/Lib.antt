pub mod BracketKept
pub mod Halves
pub mod HalvingKept
pub mod HalvingsMade
pub mod MiddleRefused
