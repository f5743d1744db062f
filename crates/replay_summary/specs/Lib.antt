-- In reading order.
pub mod Counted
pub mod Summary
pub mod Adding
pub mod Occupancy
pub mod Rate
pub mod Text
