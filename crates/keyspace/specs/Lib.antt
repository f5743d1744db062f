-- The reference, in reading order.
pub mod Places
pub mod Processed
pub mod Writes
pub mod Judged
pub mod Judge
pub mod Chain
pub mod Answer
pub mod Found
pub mod Leaving
pub mod Run
pub mod Laws
pub mod Rows
pub mod Versions
-- Not part of the reference.
pub mod storage
