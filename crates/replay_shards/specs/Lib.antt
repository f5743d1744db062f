-- In reading order.
pub mod Points
pub mod Sampling
pub mod Clips
pub mod Notes
pub mod Answers
pub mod Merging
pub mod Answered
pub mod Failures
-- Not of the meaning: how the code matches answers.
pub mod Matching
