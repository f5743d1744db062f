pub mod Saying
pub mod Unopened
pub mod Streaming
pub mod Writers
pub mod Programs
pub mod ShardingEnds
pub mod ShardingFiles
