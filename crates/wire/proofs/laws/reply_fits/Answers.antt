use Rattle.wire.proofs.Fitting.{reply_fits}
use Rattle.wire.proofs.laws.reply_fits.Goals as goal

pub returns : goal.returns
returns c = record { fits = reply_fits }
