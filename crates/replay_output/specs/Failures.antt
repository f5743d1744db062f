-- The lines of standard error: what failed of each proxy, and last how the run ended.
use Rattle.std.specs.Prelude.{◌≡◌, ℕ, zero, suc, Bool, true, false, if◌then◌else◌, List, [], ◌∷◌, ◌++◌, codes, Option, None, Some}
use Rattle.std.specs.List.{All, flat_map, enumerate_from}
use Rattle.std.specs.Fmt.{decimal}
use Rattle.wire.specs.declared.error.WireError.{WireError}
use Rattle.wire.specs.declared.error.WireError.TheVariants as wire
use Rattle.limits.specs.declared.stop.Stop.{Stop}
use Rattle.limits.specs.declared.stop.Stop.TheVariants as resolver
use Rattle.replay_output.specs.declared.failures.ProxyFailure.{ProxyFailure}
use Rattle.replay_output.specs.declared.failures.Ending.{Ending}
use Rattle.replay_output.specs.declared.failures.Ending.TheVariants.{Complete, Incomplete, Stopped}

-- the number and the name of a fault
abbrev pub fault_name : WireError → List ℕ
fault_name wire.Short = codes "1 Short"
fault_name wire.Long = codes "2 Long"
fault_name wire.Kind = codes "3 Kind"
fault_name wire.Trailing = codes "4 Trailing"
fault_name wire.Version = codes "5 Version"
fault_name wire.Marks = codes "6 Marks"
fault_name wire.Count = codes "7 Count"
fault_name wire.KeyLength = codes "8 KeyLength"
fault_name wire.Inverted = codes "9 Inverted"
fault_name wire.Cut = codes "10 Cut"
fault_name wire.Memory = codes "11 Memory"
fault_name wire.Read = codes "12 Read"
fault_name wire.Form = codes "13 Form"
fault_name wire.Spelling = codes "14 Spelling"
fault_name wire.Write = codes "15 Write"

-- the number and the name of a stop
abbrev pub stop_name : Stop → List ℕ
stop_name resolver.Memory = codes "1 Memory"
stop_name resolver.GateFull = codes "2 GateFull"
stop_name resolver.ArenaFull = codes "3 ArenaFull"

-- the line of this proxy's fault, if there is one
abbrev pub fault_line : ℕ → Option WireError → List ℕ
fault_line proxy None = []
fault_line proxy (Some fault) =
    codes "replay: proxy " ++ (decimal proxy ++ (codes ": wire " ++ (fault_name fault ++ codes "\n")))

-- the line of this proxy's loss, if there is one
abbrev pub loss_line : ℕ → Bool → List ℕ
loss_line proxy lost = if lost then codes "replay: proxy " ++ decimal proxy ++ codes ": memory\n" else []

-- the lines of a proxy, given its number and what failed of it
abbrev pub lines_of_failure : ℕ × ProxyFailure → List ℕ
lines_of_failure proxy = fault_line proxy.0 proxy.1.fault ++ loss_line proxy.0 proxy.1.lost

-- the line of the ending, if it is none that was wanted
abbrev pub ending_line : Ending → List ℕ
ending_line Complete = []
ending_line Incomplete = codes "replay: incomplete\n"
ending_line (Stopped stop) = codes "replay: stop " ++ stop_name stop ++ codes "\n"

-- the lines of all proxies; a proxy's number is its index
abbrev pub proxy_lines : List ProxyFailure → List ℕ
proxy_lines failures = flat_map lines_of_failure (enumerate_from 0 failures)

-- the complete text
abbrev pub failure_lines : List ProxyFailure → Ending → List ℕ
failure_lines failures ending = proxy_lines failures ++ ending_line ending

-- the same with a loss of this proxy
abbrev pub with_loss : ℕ → List ProxyFailure → List ProxyFailure
with_loss proxy [] = []
with_loss zero (failure ∷ failures) = record failure { lost = true } ∷ failures
with_loss (suc proxy) (failure ∷ failures) = failure ∷ with_loss proxy failures

-- nothing failed of this proxy
abbrev pub IsClean : ProxyFailure → Type 0
IsClean failure = (failure.fault ≡ None) × (failure.lost ≡ false)

-- nothing failed
pub record NothingFailed (failures : List ProxyFailure) (ending : Ending) : Type 0 where
  pub proxies : All IsClean failures
  pub complete : ending ≡ Complete
