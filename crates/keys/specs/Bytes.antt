-- The bytes of a byte string, wherever they are kept. This project's own.
use Rattle.std.specs.Prelude.{ℕ, List, take}
use Rattle.keys.specs.declared.bytes.Short.{Short}
use Rattle.keys.specs.declared.bytes.Kept.{Kept}
use Rattle.keys.specs.declared.bytes.Kept.TheVariants.{Here, There}

-- those of the array that count
abbrev pub bytes_here : Short → List ℕ
bytes_here short = take short.count short.array

abbrev pub bytes_kept : Kept → List ℕ
bytes_kept (Here short) = bytes_here short
bytes_kept (There bytes) = bytes.items
