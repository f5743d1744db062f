-- The text of summaries: one line of words per proxy, one for all and one for the resolver, or one line of JSON. This project's own formats.
use Rattle.std.specs.Prelude.{ℕ, ◌==◌, if◌then◌else◌, List, [], ◌++◌, codes, Option, None, Some}
use Rattle.std.specs.List.{flat_map, enumerate_from}
use Rattle.std.specs.Fmt.{decimal, signed_decimal}
use Rattle.replay_summary.specs.declared.occupancy.Occupancy.{Occupancy}
use Rattle.replay_summary.specs.declared.summary.Summary.{Summary}
use Rattle.replay_summary.specs.declared.text.SummaryForm.{SummaryForm}
use Rattle.replay_summary.specs.declared.text.SummaryForm.TheVariants.{Words, Json}
use Rattle.replay_summary.specs.declared.versions.Versions.{Versions}
use Rattle.replay_summary.specs.Summary.{total_of}
use Rattle.replay_summary.specs.Rate.{rate_member, rate_words}

-- the batches that were replied to, and the verdicts on their transactions, in words
abbrev pub verdict_words : Summary → List ℕ
verdict_words s =
    codes "batches " ++ decimal s.batches ++ codes ", transactions " ++ decimal s.transactions
    ++ codes ", committed " ++ decimal s.committed ++ codes ", conflict " ++ decimal s.conflict
    ++ codes ", tooold " ++ decimal s.too_old

-- the answers that are no first reply, in words
abbrev pub other_words : Summary → List ℕ
other_words s =
    codes ", repeats " ++ decimal s.repeats ++ codes ", never " ++ decimal s.never ++ codes ", held " ++ decimal s.held

abbrev pub version_words : Option Versions → List ℕ
version_words None = codes ", versions none\n"
version_words (Some versions) =
    codes ", versions " ++ signed_decimal versions.first ++ codes " to " ++ signed_decimal versions.last ++ codes "\n"

-- the words of a summary, to the end of the line
abbrev pub words : Summary → List ℕ
words s = verdict_words s ++ rate_words s ++ other_words s ++ version_words s.versions

-- the line of a proxy, given its number and its summary
abbrev pub proxy_line : ℕ × Summary → List ℕ
proxy_line proxy = codes "proxy " ++ decimal proxy.0 ++ codes ": " ++ words proxy.1

-- the line of all proxies
abbrev pub last_line : Summary → List ℕ
last_line total = codes "all: " ++ words total

-- the occupancy of the resolver in words: most batches held, boundaries at the end, and at most
abbrev pub occupancy_words : Occupancy → List ℕ
occupancy_words o =
    codes "resolver: held at most " ++ decimal o.most_held ++ codes ", boundaries " ++ decimal o.boundaries
    ++ codes ", at most " ++ decimal o.most_boundaries

-- the line of the resolver, if its occupancy is known
abbrev pub resolver_line : Option Occupancy → List ℕ
resolver_line None = []
resolver_line (Some o) = occupancy_words o ++ codes "\n"

-- the same numbers as members of an object
abbrev pub verdict_members : Summary → List ℕ
verdict_members s =
    codes "\"batches\":" ++ decimal s.batches ++ codes ",\"transactions\":" ++ decimal s.transactions
    ++ codes ",\"committed\":" ++ decimal s.committed ++ codes ",\"conflict\":" ++ decimal s.conflict
    ++ codes ",\"tooold\":" ++ decimal s.too_old

abbrev pub other_members : Summary → List ℕ
other_members s =
    codes ",\"repeats\":" ++ decimal s.repeats ++ codes ",\"never\":" ++ decimal s.never
    ++ codes ",\"held\":" ++ decimal s.held

abbrev pub version_member : Option Versions → List ℕ
version_member None = codes ",\"versions\":null"
version_member (Some versions) =
    codes ",\"versions\":{\"first\":" ++ signed_decimal versions.first ++ codes ",\"last\":" ++ signed_decimal versions.last
    ++ codes "}"

-- the members of a summary
abbrev pub members : Summary → List ℕ
members s = verdict_members s ++ rate_member s ++ other_members s ++ version_member s.versions

-- the same, to the end of the object
abbrev pub members_to_end : Summary → List ℕ
members_to_end s = members s ++ codes "}"

-- the object of a proxy, given its number and its summary; a comma is before each but the first
abbrev pub proxy_object : ℕ × Summary → List ℕ
proxy_object proxy =
    (if proxy.0 == 0 then [] else codes ",") ++ codes "{\"proxy\":" ++ decimal proxy.0 ++ codes "," ++ members_to_end proxy.1

abbrev pub proxy_objects : List Summary → List ℕ
proxy_objects summaries = flat_map proxy_object (enumerate_from 0 summaries)

-- the same three numbers as members
abbrev pub occupancy_members : Occupancy → List ℕ
occupancy_members o =
    codes ",\"most_held\":" ++ decimal o.most_held ++ codes ",\"boundaries\":" ++ decimal o.boundaries
    ++ codes ",\"most_boundaries\":" ++ decimal o.most_boundaries

-- the members of the resolver, if its occupancy is known
abbrev pub resolver_members : Option Occupancy → List ℕ
resolver_members None = []
resolver_members (Some o) = occupancy_members o

-- The text, given the summary of each proxy, and the occupancy of the resolver if it is known. A proxy's number is its index.
abbrev pub text : SummaryForm → Option Occupancy → List Summary → List ℕ
text Words occupancy summaries =
    flat_map proxy_line (enumerate_from 0 summaries) ++ last_line (total_of summaries) ++ resolver_line occupancy
text Json occupancy summaries =
    codes "{\"proxies\":[" ++ proxy_objects summaries ++ codes "]," ++ members (total_of summaries)
    ++ resolver_members occupancy ++ codes "}\n"
