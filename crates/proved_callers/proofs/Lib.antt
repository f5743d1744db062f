pub mod TwoProxies
pub mod Transferring
