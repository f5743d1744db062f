-- In reading order.
pub mod LineFilter
pub mod Quieted
pub mod Lines
pub mod Packed
pub mod Line
pub mod Notes
pub mod Failures
pub mod Start
pub mod Record
pub mod Streamed
pub mod Unwritten
