pub mod Matched
pub mod NoDifference
pub mod callers
