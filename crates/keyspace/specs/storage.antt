-- How a batch keeps its transactions and numbers their ranges, in reading order, and then order by version. This project's own.
pub mod BatchRanges
pub mod Fields
pub mod Tables
pub mod RowMarks
pub mod Putting
pub mod InOrder
