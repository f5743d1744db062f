-- lemmas that proofs of the crates above may cite
pub mod Booleans
pub mod Numbers
pub mod Lists
pub mod Counts
pub mod SomeElement
pub mod KeyOrder
pub mod Meeting
pub mod SingleRanges
pub mod KeyHeads
pub mod GapRuns
pub mod Picked
