-- lemmas that proofs of the crates above may cite
pub mod Lists
pub mod Numbers
pub mod Places
pub mod Singles
pub mod Held
pub mod Known
pub mod Given
pub mod Frames
pub mod ReplyLengths
