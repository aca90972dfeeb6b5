-- What the proofs of this module share.
mod Floats
mod States
