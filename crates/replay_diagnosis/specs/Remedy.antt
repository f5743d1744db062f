-- The lines that say what was found and what to do. This project's own.
use Rattle.std.specs.Prelude.{ℕ, ◌==◌, ◌||◌, nat_lt, if◌then◌else◌, Bool, List, ◌++◌, codes, map}
use Rattle.std.specs.Fmt.{decimal, signed_decimal}
use Rattle.replay_diagnosis.specs.declared.position.Position.{Position}
use Rattle.replay_diagnosis.specs.declared.run_findings.Finding.{Finding}
use Rattle.replay_diagnosis.specs.declared.run_findings.Finding.TheVariants as found
use Rattle.replay_diagnosis.specs.declared.run_findings.RunFinding.{RunFinding}
use Rattle.replay_diagnosis.specs.declared.run_findings.RunFinding.TheVariants as run

-- a control character of ASCII
abbrev pub is_control : ℕ → Bool
is_control byte = nat_lt byte 32 || byte == 127

-- a byte of a name; a control character is shown as a question mark
abbrev pub shown_byte : ℕ → ℕ
shown_byte byte = if is_control byte then 63 else byte

-- the name of a file, on one line
abbrev pub shown_name : List ℕ → List ℕ
shown_name name = map shown_byte name

abbrev pub position_text : Position → List ℕ
position_text at = codes "frame " ++ decimal at.frame ++ codes " at byte " ++ decimal at.offset

-- what to do with a file that has no frame of a batch at this position: a file that begins so is another file
abbrev pub advice : Position → List ℕ
advice at =
    if at.offset == 0 then codes ": name a file of batches"
    else codes ": record it again, or keep the frames before it with `head -c " ++ decimal at.offset ++ codes "`"

abbrev pub unreadable_text : Position → List ℕ
unreadable_text at =
    if at.offset == 0 then codes " can't be read: it is a directory, or its device fails"
    else codes " can't be read at " ++ position_text at ++ codes ": check its device"

-- what was found in a file, and what to do, after the file's name
abbrev pub finding_text : Finding → List ℕ
finding_text found.CannotOpen = codes " can't be opened: check the name and the permissions"
finding_text found.StandardInput = codes " is standard input, which can't be read again: record it to a file, and replay that"
finding_text found.Memory = codes " can't be examined for want of memory: free memory"
finding_text (found.Unreadable at) = unreadable_text at
finding_text found.Json = codes " is JSON: run `batches encode`, and replay its output"
finding_text (found.Reply at) =
    codes " contains replies, not batches, from " ++ position_text at ++ codes " on: give them to `--check`"
finding_text (found.Truncated at missing) =
    codes " ends inside " ++ position_text at ++ codes ", " ++ decimal missing ++ codes " bytes too early" ++ advice at
finding_text (found.NotAFrame at fault) = codes " has no frame of a batch as " ++ position_text at ++ advice at

-- the line about the file of this name
abbrev pub remedy_line : List ℕ → Finding → List ℕ
remedy_line name finding = codes "  " ++ shown_name name ++ finding_text finding ++ codes "\n"

-- what was found of a run, and what to do
abbrev pub run_finding_text : RunFinding → List ℕ
run_finding_text (run.AllHeld version) =
    codes "no batch follows version -1, so all are held: begin the chain with `batches opening --version "
    ++ signed_decimal version ++ codes "`"
run_finding_text run.GateFull =
    codes "too many batches wait for one that is missing: make all files one chain, with rising versions in each file"
run_finding_text (run.ArenaFull version limit) =
    codes "version " ++ signed_decimal version ++ codes " was reached with a limit of " ++ decimal limit
    ++ codes " boundaries: raise `--limit`, or use a smaller `--window`"
run_finding_text run.Output = codes "the output can't be written: free its disk, or read it to its end"

abbrev pub run_remedy_line : RunFinding → List ℕ
run_remedy_line finding = codes "  " ++ run_finding_text finding ++ codes "\n"
