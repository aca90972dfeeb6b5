-- What the proofs of this module use: the comparisons of `lesser`, and what the chains of `min` and `position_at_or_below` compute.
mod Comparisons
mod Chains
