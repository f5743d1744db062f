-- In the order in which one reads them aloud.
pub mod Key
pub mod Head
pub mod Range
pub mod Hash
pub mod GapRuns
pub mod Sorting
pub mod Counting
pub mod Numbering
pub mod Singles
pub mod Gaps
pub mod Laws
pub mod Bytes
