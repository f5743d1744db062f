-- In reading order.
pub mod Difference
pub mod Text
pub mod Check
