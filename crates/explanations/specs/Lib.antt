-- In the order in which one reads them aloud.
pub mod Written
pub mod Explains
pub mod Writers
pub mod History
pub mod Found
pub mod Laws
