-- Options with which no line is shown. This project's own.
use Rattle.std.specs.Prelude.{true}
use Rattle.replay_output.specs.declared.options.line_filter.LineFilter.{LineFilter}
use Rattle.replay_output.specs.declared.options.style.Style.{Style}
use Rattle.replay_output.specs.declared.options.Options.{Options}

-- the same filter, with which no line is shown
abbrev pub quiet_filter : LineFilter → LineFilter
quiet_filter filter = record filter { quiet = true }

-- the same style, with which no line is shown
abbrev pub quiet_style : Style → Style
quiet_style style = record style { filter = quiet_filter style.filter }

-- the same options, with which no line is shown
abbrev pub options_quieted : Options → Options
options_quieted options = record options { style = quiet_style options.style }
