-- What a contract sees of a reader of frames.
use Rattle.std.specs.Prelude.{Option}
use Rattle.wire.specs.declared.error.WireError.{WireError}
use Rattle.wire.specs.declared.frames.Frames.{Frames}

-- the reader that the frames come from; nothing that was read of it is held beyond the frames handed on
abbrev pub frames_reader : {R : Type 0} → Frames R → R
frames_reader frames = frames.reader

-- the refusal that ended the frames
abbrev pub refusal_of : {R : Type 0} → Frames R → Option WireError
refusal_of frames = frames.refusal
