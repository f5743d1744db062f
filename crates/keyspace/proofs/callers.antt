-- lemmas that proofs of the crates above may cite
pub mod Judging
pub mod Chains
pub mod SameFields
pub mod Rows
pub mod Putting
pub mod Ordered
pub mod Runs
pub mod ProxyVersions
