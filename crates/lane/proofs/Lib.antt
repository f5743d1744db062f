mod Beside
mod RingLists
mod RingLog
mod RingRule
