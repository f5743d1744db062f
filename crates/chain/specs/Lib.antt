pub mod Replies
pub mod Stop
