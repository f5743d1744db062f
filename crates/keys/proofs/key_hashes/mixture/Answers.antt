use Rattle.std.proofs.lemmas.List.{take_rest}
use Rattle.keys.specs.Hash.{mixture_of}
use Rattle.keys.proofs.key_hashes.mixture.Goals as goal

pub returns-clause-mixture : goal.returns-clause-mixture
unfolding mixture_of
returns-clause-mixture c =
    rw (
      c.mix.ensures.mixed,
      c.mix-fourth.ensures.mixed,
      c.mix-third.ensures.mixed,
      c.mix-second.ensures.mixed,
      c.mix-first.ensures.mixed,
      c.saturating_sub-last.ensures,
    ) (simp take_rest)
