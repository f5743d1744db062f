-- In reading order.
pub mod Checked
pub mod Replies
pub mod Replayed
pub mod Met
pub mod Explained
pub mod Summarized
pub mod Sharded
