-- In reading order.
pub mod Streamed
pub mod Verbose
pub mod Program
pub mod ShardedProgram
pub mod Ended
