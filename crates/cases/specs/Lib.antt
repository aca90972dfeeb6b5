pub mod Arguments
pub mod Digest
