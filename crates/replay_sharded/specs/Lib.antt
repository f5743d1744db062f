-- In reading order.
pub mod Files
pub mod Runs
pub mod Combined
pub mod Sharded
