pub mod Frames
pub mod FourWords
pub mod FrameLengths
pub mod KeyOrder
pub mod TextAlone
