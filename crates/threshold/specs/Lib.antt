pub mod Answers
pub mod BracketKept
pub mod Halving
pub mod HalvingLaws
pub mod Refusal
pub mod Search
pub mod SearchLaws
pub mod UnitExact
