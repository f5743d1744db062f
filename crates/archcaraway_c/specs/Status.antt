-- The numbers by which C sees refusals. This project's own.
use Rattle.std.specs.Prelude.{ℕ, ℤ, pos}
use Rattle.limits.specs.declared.stop.Stop.{Stop as StopValue}
use Rattle.limits.specs.declared.stop.Stop.TheVariants as stop
use Rattle.wire.specs.declared.error.WireError.{WireError}
use Rattle.wire.specs.declared.error.WireError.TheVariants as wire
use Rattle.archcaraway_c.specs.declared.refusal.Refusal.{Refusal}
use Rattle.archcaraway_c.specs.declared.refusal.Refusal.TheVariants.{Stop, Wire, Version, Argument, Buffer, Behind}

-- a stop has the number of its name
abbrev pub stop_status : StopValue → ℤ
stop_status stop.Memory = pos 1
stop_status stop.GateFull = pos 2
stop_status stop.ArenaFull = pos 3

-- a fault of a frame has the number of its name, and 100
abbrev pub wire_status : WireError → ℤ
wire_status wire.Short = pos 101
wire_status wire.Long = pos 102
wire_status wire.Kind = pos 103
wire_status wire.Trailing = pos 104
wire_status wire.Version = pos 105
wire_status wire.Marks = pos 106
wire_status wire.Count = pos 107
wire_status wire.KeyLength = pos 108
wire_status wire.Inverted = pos 109
wire_status wire.Cut = pos 110
wire_status wire.Memory = pos 111
wire_status wire.Read = pos 112
wire_status wire.Form = pos 113
wire_status wire.Spelling = pos 114
wire_status wire.Write = pos 115

abbrev pub refusal_status : Refusal → ℤ
refusal_status (Stop s) = stop_status s
refusal_status (Wire fault) = wire_status fault
refusal_status Version = pos 201
refusal_status Argument = pos 202
refusal_status (Buffer needed) = pos 203
refusal_status Behind = pos 204

-- how many bytes a buffer that is too small needs
abbrev pub bytes_needed : Refusal → ℕ
bytes_needed (Buffer needed) = needed
bytes_needed (Stop s) = 0
bytes_needed (Wire fault) = 0
bytes_needed Version = 0
bytes_needed Argument = 0
bytes_needed Behind = 0
