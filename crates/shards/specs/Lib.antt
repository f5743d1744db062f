-- In the order in which one reads them aloud, after `Shards` of `serial`.
pub mod SplitPoints
pub mod Balanced
pub mod Clips
pub mod Numbered
pub mod Combined
pub mod Laws
-- Not part of the meaning: how the code keeps the indices of read ranges, finds the shards of a range, clips it to one,
-- and picks split points.
pub mod ReadIndices
pub mod Reach
pub mod Cut
pub mod Built
pub mod Picking
