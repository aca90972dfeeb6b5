-- What the proofs of `exp` use, each file above the next.
mod Binade
mod Shift
mod Range
mod Cases
mod Limits
