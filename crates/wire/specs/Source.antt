-- What a contract sees of a reader over `std::io::Read`.
use Rattle.std.specs.Prelude.{ℕ, List, Option, None, ◌==◌, if◌then◌else◌}
use Rattle.wire.specs.declared.source.StdSource.{StdSource}

-- the reader inside
abbrev pub source_reader : {R : Type 0} → StdSource R → R
source_reader source = source.reader

-- how often it has failed
abbrev pub source_failures : {R : Type 0} → StdSource R → ℕ
source_failures source = source.failures

-- the bytes left, if the reader reports them, as long as a further failure could be counted
abbrev pub source_remaining : {R : Type 0} → (R → Option (List ℕ)) → StdSource R → Option (List ℕ)
source_remaining remaining source =
    if source.failures == 18446744073709551615 then None else remaining source.reader
