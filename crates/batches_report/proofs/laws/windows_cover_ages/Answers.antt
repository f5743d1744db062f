use Rattle.batches_report.proofs.Windows.{covered, in_time}
use Rattle.batches_report.proofs.laws.windows_cover_ages.Goals as goal

pub returns : goal.returns
returns c = record {
  law = λ window b t has. (
    λ covers old. in_time b.version t.snapshot window covers t.natural old.1,
    λ fine. covered b.version t.snapshot window (λ old. fine (has, old)),
  );
}
