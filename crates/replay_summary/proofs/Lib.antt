pub mod Last
pub mod Selecting
pub mod Rising
pub mod Summing
pub mod Fitting
pub mod CountedItems
pub mod Appending
pub mod Numbered
mod Texts
