pub mod callers
mod ShardList
mod Counts
mod Reached
mod HeadOrder
mod Cutting
mod ClipKeys
mod ClipLists
mod Appended
mod IndexLists
pub mod Leasts
pub mod Reports
mod Misfits
mod Together
mod Going
mod Among
mod AmongOthers
mod NoMore
mod BuiltTables
mod Kept
mod KeyOrders
mod Picked
mod Begins
mod Fronts
