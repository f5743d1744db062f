-- What an answer is about. This project's own.
use Rattle.std.specs.Prelude.{ℤ}
use Rattle.keyspace.specs.declared.answer.Answer.{Answer}
use Rattle.keyspace.specs.declared.answer.Answer.TheVariants.{Reply, Never, Held}

-- the version of the batch that is answered
abbrev pub version_of_answer : Answer → ℤ
version_of_answer (Reply reply) = reply.version
version_of_answer (Never version) = version
version_of_answer (Held version) = version
