-- In reading order.
pub mod Share
pub mod NextAdmitted
pub mod PlaceWords
pub mod Ends
pub mod Inbox
pub mod Worker
pub mod Reporting
pub mod Asking
pub mod Watch
pub mod Threads
pub mod Stops
pub mod Occupied
pub mod Ended
pub mod Run
