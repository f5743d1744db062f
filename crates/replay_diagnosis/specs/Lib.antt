-- In reading order.
pub mod Following
pub mod Content
pub mod Remedy
pub mod Laws
