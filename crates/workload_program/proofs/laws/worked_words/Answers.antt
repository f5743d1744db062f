use Rattle.std.proofs.Common.{refl}
use Rattle.clap.proofs.OnLiterals.{clap_on_literals}
use Rattle.workload_program.specs.Command.{faults_of, workload_app}
use Rattle.workload_program.proofs.laws.worked_words.Goals as goal

pub returns : goal.returns
unfolding clap_on_literals faults_of workload_app
returns c = record { help = refl; version = refl; help_between = refl; plan = refl }
