pub mod Least
pub mod KeptKeys
