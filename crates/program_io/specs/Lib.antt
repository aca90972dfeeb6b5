pub mod Input
pub mod InputLaws
pub mod Output
