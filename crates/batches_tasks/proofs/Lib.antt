pub mod callers
mod Turning
mod Failures
mod FramesRead
mod Adding
mod EveryKey
mod CountedSoFar
mod TalliedSoFar
mod PointLines
