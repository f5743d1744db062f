use Rattle.std.proofs.Common.{arith}
use Rattle.std.proofs.lemmas.Int.{ints}
use Rattle.structure_tests.proofs.written.WrittenModel.write.Goals as goal

pub write-requires-clause-newest : goal.write-requires-clause-newest
write-requires-clause-newest c = λ k d lt.
    let below = c.prepare.new.self.newest k d lt in
    omega (arith, ints, c.prepare.ensures.version)
