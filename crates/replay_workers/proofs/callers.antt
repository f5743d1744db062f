-- lemmas that proofs of the crates above may cite
pub mod Lists
pub mod Reading
pub mod SameLanes
pub mod Stopping
pub mod Ending
