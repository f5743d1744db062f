-- lemmas that proofs of the crates above may cite
pub mod Results
pub mod Quiet
pub mod Counting
pub mod Texts
pub mod Known
