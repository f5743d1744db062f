use Rattle.std.proofs.Common.{codes}
use Rattle.std.specs.declared.str.ParseBoolError.{ParseBoolError}
use Rattle.clap.specs.Words.{found_of}
use Rattle.replay_arguments.proofs.Getters.{flag_read, no_flag}
use Rattle.replay_arguments.proofs.arguments.details.is_verbose.Goals as goal

pub returns : goal.returns
returns c =
    let found = found_of c.args.matches.now in
    record {
      verbose = flag_read ParseBoolError found (codes "verbose") c.get_one.result c.get_one.ensures.none c.get_one.ensures.value;
      none = λ is has. no_flag ParseBoolError found (codes "verbose") c.get_one.result c.get_one.ensures.value has.0 is has.1;
    }
