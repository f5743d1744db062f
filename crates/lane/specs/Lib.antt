pub mod Moves
pub mod Lane
pub mod Refused
pub mod Taken
pub mod Calls
pub mod Ring
pub mod Steps
pub mod Ends
