-- The lines of standard error for proxies whose records could not be written. This project's own.
use Rattle.std.specs.Prelude.{ℕ, Bool, if◌then◌else◌, List, [], ◌++◌, codes}
use Rattle.std.specs.List.{flat_map, enumerate_from}
use Rattle.std.specs.Fmt.{decimal}

-- the line of a proxy, given its number and whether a record of its answers could not be written
abbrev pub unwritten_line : ℕ × Bool → List ℕ
unwritten_line proxy = if proxy.1 then codes "replay: replies " ++ (decimal proxy.0 ++ codes ": wire 15 Write\n") else []

-- the lines of all proxies; a proxy's number is its index
abbrev pub unwritten_lines : List Bool → List ℕ
unwritten_lines unwritten = flat_map unwritten_line (enumerate_from 0 unwritten)
