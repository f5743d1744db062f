pub mod Following
pub mod Holding
pub mod FramesRead
pub mod FrontLengths
pub mod Classified
pub mod Settled
pub mod Lines
pub mod Appending
