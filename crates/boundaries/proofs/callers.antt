-- lemmas that proofs of the crates above may cite
pub mod Lists
pub mod Times
pub mod Partitions
pub mod Heads
pub mod Counting
pub mod InTurn
pub mod LeftFrom
pub mod Order
pub mod Parting
pub mod SingleKeys
pub mod Sweeps
pub mod Unexpired
pub mod Values
pub mod WritingOrder
pub mod WritingValues
