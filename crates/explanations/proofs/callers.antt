-- lemmas that proofs of the crates above may cite
pub mod Chains
pub mod Following
pub mod Newest
