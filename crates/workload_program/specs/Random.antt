-- The numbers that look drawn by chance. Which they are is this project's own: a linear congruence of 64 bits, with the factor and the
-- summand of Knuth's MMIX.
use Rattle.std.specs.Prelude.{ℕ, ◌+◌, ◌*◌, ◌/◌, ◌%◌, ◌^◌}
use Rattle.workload_program.specs.declared.random.Random.{Random}

-- the state of the source
abbrev pub state_of : Random → ℕ
state_of random = random.state

-- the state after this one
abbrev pub state_after : ℕ → ℕ
state_after state = (state * 6364136223846793005 + 1442695040888963407) % 2 ^ 64

-- the number below the bound that a state gives, by its upper half
abbrev pub number_below : ℕ → ℕ → ℕ
number_below bound state = state / 2 ^ 32 % bound
