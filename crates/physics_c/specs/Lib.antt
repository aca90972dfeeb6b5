pub mod Kept
pub mod Next
