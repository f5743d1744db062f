-- The numbers of a shape: how its versions rise, how many keys it has, and how many ranges its transactions have.
use Rattle.std.specs.Prelude.{ℕ, ◌*◌, ℤ, pos}
use Rattle.workload_program.specs.declared.shape.Shape.{Shape}
use Rattle.workload_program.specs.declared.shape.Shape.TheVariants.{SkipListTest, Points}
use Rattle.workload_program.specs.declared.shape.TheConstants.{RANGE_KEYS, POINT_KEYS}

-- by how much each version is above the one before
abbrev pub rise_of : Shape → ℕ
rise_of SkipListTest = 100000
rise_of Points = 20000

-- how many keys are drawn from
abbrev pub keys_of : Shape → ℕ
keys_of SkipListTest = RANGE_KEYS
keys_of Points = POINT_KEYS

-- how many reads a transaction has
abbrev pub reads_of : Shape → ℕ
reads_of SkipListTest = 1
reads_of Points = 5

-- how many writes a transaction has
abbrev pub writes_of : Shape → ℕ
writes_of SkipListTest = 1
writes_of Points = 2

-- the version of the batch of a number
abbrev pub version_of : Shape → ℕ → ℤ
version_of shape number = pos (number * rise_of shape)
