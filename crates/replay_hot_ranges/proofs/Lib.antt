pub mod Keys
pub mod Noting
pub mod Ranking
pub mod Listing
pub mod Adding
pub mod Same
pub mod Seen
pub mod Written
