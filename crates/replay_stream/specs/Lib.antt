-- In reading order.
pub mod Sender
pub mod Sinks
pub mod Recorder
pub mod Outlet
pub mod Proxies
pub mod Ending
pub mod Streaming
