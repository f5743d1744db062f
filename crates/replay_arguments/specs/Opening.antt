-- The opening of the files of a command line. This project's own.
use Rattle.std.specs.Prelude.{ℕ, ◌<◌, List, ◌++◌, codes, map, length, take, Option, IfSome, slice_get}
use Rattle.std.specs.List.{All}
use Rattle.std.specs.Fmt.{decimal}
use Rattle.replay_arguments.specs.declared.opened_files.OpeningError.{OpeningError}
use Rattle.replay_arguments.specs.declared.opened_files.OpeningError.TheVariants as opening
use Rattle.replay_arguments.specs.declared.opened_files.files.FileError.{FileError}
use Rattle.replay_arguments.specs.declared.opened_files.files.FileError.TheVariants as file_error
use Rattle.replay_arguments.specs.declared.opened_files.written.WrittenFile.{WrittenFile}
use Rattle.replay_arguments.specs.declared.opened_files.written.WrittenFile.TheVariants.{Output, Summary}
use Rattle.replay_output.specs.declared.start.StartError.TheVariants as start
use Rattle.replay_output.specs.Start.{start_line}

-- the bytes of the files of these names, in order, one per name
abbrev pub contents_each : (List ℕ → Option (List ℕ)) → List (List ℕ) → List (Option (List ℕ))
contents_each contents names = map contents names

-- The file of this proxy can't be opened, and those of the proxies before it were.
pub record IsFirstRefused (has_opened cannot_open : List ℕ → Type 0) (names : List (List ℕ)) (proxy : ℕ) :
    Type 0 where
  pub inside : proxy < length names
  pub before : All has_opened (take proxy names)
  pub refused : IfSome (slice_get names proxy) cannot_open

-- the line of standard error if the files were not opened
abbrev pub opening_line : OpeningError → List ℕ
opening_line (opening.CannotOpen proxy) = codes "replay: proxy " ++ decimal proxy ++ codes ": cannot open\n"
opening_line opening.Memory = start_line start.Memory

-- how the line of a file for records begins
abbrev pub replies_of : ℕ → List ℕ
replies_of proxy = codes "replay: replies " ++ decimal proxy

-- the line of standard error if the files for records were not opened
abbrev pub creating_line : OpeningError → List ℕ
creating_line (opening.CannotOpen proxy) = replies_of proxy ++ codes ": cannot open\n"
creating_line opening.Memory = start_line start.Memory

-- the line of standard error if this file can't be created
abbrev pub uncreated_line : WrittenFile → List ℕ
uncreated_line Output = codes "replay: create output\n"
uncreated_line Summary = codes "replay: create summary\n"

-- the line of standard error if this file was not created for this cause
abbrev pub written_line : WrittenFile → FileError → List ℕ
written_line file file_error.CannotOpen = uncreated_line file
written_line file file_error.Memory = start_line start.Memory
