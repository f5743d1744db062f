-- The lines of differences. This project's own.
use Rattle.std.specs.Prelude.{ℕ, if◌then◌else◌, List, [], ◌∷◌, ◌++◌, codes}
use Rattle.std.specs.List.{flat_map, join_by}
use Rattle.std.specs.Fmt.{decimal, signed_decimal}
use Rattle.keyspace.specs.declared.reply.Entry.{Entry}
use Rattle.keyspace.specs.declared.reply.Verdict.{Verdict}
use Rattle.keyspace.specs.declared.reply.Verdict.TheVariants.{Conflict, TooOld, Committed}
use Rattle.checking.specs.declared.difference.Difference.{Difference}
use Rattle.checking.specs.declared.difference.DifferenceKind.{DifferenceKind}
use Rattle.checking.specs.declared.difference.DifferenceKind.TheVariants.{Missing, Unexpected, Count, Transaction}
use Rattle.checking.specs.Difference.{is_same_verdict}

abbrev pub verdict_name : Verdict → List ℕ
verdict_name Committed = codes "committed"
verdict_name TooOld = codes "tooold"
verdict_name Conflict = codes "conflict"

-- the places of a report, with a comma between
abbrev pub place_names : List ℕ → List ℕ
place_names [] = codes "none"
place_names (place ∷ places) = join_by decimal (codes ",") (place ∷ places)

-- verdicts that differ
abbrev pub verdicts_text : Verdict → Verdict → List ℕ
verdicts_text e f = codes "expected " ++ verdict_name e ++ codes ", found " ++ verdict_name f

-- places that differ
abbrev pub places_text : List ℕ → List ℕ → List ℕ
places_text e f = codes "places expected " ++ place_names e ++ codes " found " ++ place_names f

-- what differs between two entries: the verdicts, or else the places
abbrev pub entry_text : Entry → Entry → List ℕ
entry_text e f =
    if is_same_verdict e.verdict f.verdict then places_text e.places f.places else verdicts_text e.verdict f.verdict

abbrev pub kind_text : DifferenceKind → List ℕ
kind_text Missing = codes "missing"
kind_text Unexpected = codes "unexpected"
kind_text (Count e f) = codes "expected " ++ decimal e ++ codes " verdicts, found " ++ decimal f
kind_text (Transaction index e f) = decimal index ++ codes " " ++ entry_text e f

-- the line of a difference of this proxy
abbrev pub difference_line : ℕ → Difference → List ℕ
difference_line proxy d =
    decimal proxy ++ codes " " ++ signed_decimal d.version ++ codes " " ++ kind_text d.kind ++ codes "\n"

abbrev pub difference_lines : ℕ → List Difference → List ℕ
difference_lines proxy ds = flat_map (difference_line proxy) ds
