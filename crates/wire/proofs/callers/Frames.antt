-- Lemmas for callers: what is held of the next frame, as `fill_frame` reads it, and what the bytes left say.
pub use Rattle.wire.proofs.FrameLengths.{at_least_four, entire_is_frame, entire_length, long_length}
pub use Rattle.wire.proofs.NewFrames.{frames_last}
pub use Rattle.wire.proofs.NextFrames.{is_fault}
pub use Rattle.wire.proofs.NextReplies.{is_reply_fault}
