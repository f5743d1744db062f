-- lemmas that proofs of the crates above may cite
pub mod Lists
pub mod Standing
pub mod Later
pub mod Logs
pub mod Observing
