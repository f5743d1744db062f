-- How many bytes of the frame at the front settle what it says.
use Rattle.std.specs.Prelude.{ℕ, ◌+◌, List, length, nat_lt, if◌then◌else◌}
use Rattle.wire.specs.declared.field.TheConstants.{MAX_BODY_LENGTH}
use Rattle.byteorder.specs.Endian.{big_number}

-- its four bytes of length, and then its body, unless that is too long
unfoldable pub frame_length : List ℕ → ℕ
frame_length bytes =
    if nat_lt (length bytes) 4 then 4
    else if nat_lt MAX_BODY_LENGTH (big_number 4 bytes) then 4
    else 4 + big_number 4 bytes
