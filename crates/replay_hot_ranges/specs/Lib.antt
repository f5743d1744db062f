-- In the order in which one reads them aloud.
pub mod Conflicts
pub mod Counts
pub mod Top
pub mod Laws
pub mod Text
pub mod RangeTally
pub mod HotRanges
