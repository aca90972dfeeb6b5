-- What the proofs of more than one module use, and that the rows have their moments.
pub mod Chains
pub mod Floats
pub mod Moments
