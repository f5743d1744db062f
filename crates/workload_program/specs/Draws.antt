-- Which numbers a shape draws, by the state of the source before.
use Rattle.std.specs.Prelude.{ℕ, ◌+◌}
use Rattle.workload_program.specs.Random.{number_below, state_after}
use Rattle.workload_program.specs.Versions.{keys_of}
use Rattle.workload_program.specs.declared.shape.Shape.{Shape}
use Rattle.workload_program.specs.declared.shape.Shape.TheVariants.{SkipListTest, Points}

-- the number of a key: any of them, or one up to another that is drawn before, so that small ones are likelier
abbrev pub drawn_key : Shape → ℕ → ℕ
drawn_key SkipListTest state = number_below (keys_of SkipListTest) (state_after state)
drawn_key Points state = number_below (1 + number_below (keys_of Points) (state_after state)) (state_after (state_after state))

-- the state after the draw of a key
abbrev pub after_key : Shape → ℕ → ℕ
after_key SkipListTest state = state_after state
after_key Points state = state_after (state_after state)

-- how many batches back a transaction reads: 50, or any number from 1 to 8
abbrev pub drawn_back : Shape → ℕ → ℕ
drawn_back SkipListTest state = 50
drawn_back Points state = 1 + number_below 8 (state_after state)

-- the state after that draw
abbrev pub after_back : Shape → ℕ → ℕ
after_back SkipListTest state = state
after_back Points state = state_after state
