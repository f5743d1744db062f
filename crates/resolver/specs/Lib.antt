-- In the order in which one reads them aloud.
pub mod Owed
pub mod Core
pub mod Stands
pub mod OpeningLog
pub mod Lanes
pub mod Resolver
pub mod Observed
pub mod CoreCalls
pub mod Share
pub mod Opens
pub mod Turns
pub mod Parts
pub mod Settled
