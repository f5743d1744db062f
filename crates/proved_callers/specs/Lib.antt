pub mod Served
pub mod Transfers
