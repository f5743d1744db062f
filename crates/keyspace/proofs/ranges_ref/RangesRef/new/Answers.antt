use Rattle.std.proofs.Common.{map}
use Rattle.keyspace.specs.storage.Tables.{range_of_span}
use Rattle.keyspace.proofs.FieldsBack.{fields_of_ranges}
use Rattle.keyspace.proofs.ranges_ref.RangesRef.new.Goals as goal

pub returns : goal.returns
returns c = record { reported = fields_of_ranges (map (range_of_span c.args.buffer.now) c.args.spans.now) _ }
