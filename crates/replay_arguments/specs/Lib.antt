-- In reading order.
pub mod Opening
pub mod Command
pub mod KeptInputs
pub mod Arguments
pub mod Printing
pub mod Details
pub mod Names
pub mod Asked
pub mod Asks
