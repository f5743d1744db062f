-- In the order in which one reads them aloud.
pub mod Arena
pub mod Entry
pub mod Chunk
pub mod ChunkLends
pub mod Spares
pub mod Kept
pub mod Lends
