-- lemmas that proofs of the crates above may cite
pub mod Reporting
