-- In the order in which one reads them aloud.
pub use Rattle.boundaries.specs.Boundary
pub mod StepMap
pub mod Writing
pub mod Sweeping
pub mod Limit
pub mod Covers
pub mod Rooted
pub mod Counting
pub mod Uniting
pub mod Laws
pub mod Cell
pub mod Filter
pub mod Filtering
pub mod Kept
