pub mod Appends
pub mod Indices
pub mod Found
pub mod Keys
pub mod Same
pub mod Seen
pub mod HasLine
