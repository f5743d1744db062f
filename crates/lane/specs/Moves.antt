-- What the two ends of a lane did, in one order: its log (this project's own).
use Rattle.std.specs.Prelude.{◌≡◌, ℕ, ◌+◌, List, [], ◌∷◌, ◌++◌}
use Rattle.lane.specs.declared.moves.Move.{Move}
use Rattle.lane.specs.declared.moves.Move.TheVariants.{Send, Take, PortLook, IntakeLook}

-- what a move counts, of each kind
abbrev pub is_send : Move → ℕ
is_send Send = 1
is_send Take = 0
is_send PortLook = 0
is_send IntakeLook = 0

abbrev pub is_take : Move → ℕ
is_take Send = 0
is_take Take = 1
is_take PortLook = 0
is_take IntakeLook = 0

abbrev pub is_port_look : Move → ℕ
is_port_look Send = 0
is_port_look Take = 0
is_port_look PortLook = 1
is_port_look IntakeLook = 0

abbrev pub is_intake_look : Move → ℕ
is_intake_look Send = 0
is_intake_look Take = 0
is_intake_look PortLook = 0
is_intake_look IntakeLook = 1

-- how many moves of a kind these are
abbrev pub count : (Move → ℕ) → List Move → ℕ
count kind [] = 0
count kind (move ∷ moves) = kind move + count kind moves

-- how many items these moves send, and how many they take
abbrev pub sent_by : List Move → ℕ
sent_by log = count is_send log

abbrev pub taken_by : List Move → ℕ
taken_by log = count is_take log

-- An end makes this move, and its log continues with it, after the moves that both ends made before
-- it.
pub record ContinuesBy (move : Move) (old new : List Move) : Type 0 where
  pub between : List Move
  pub log : new ≡ (old ++ between) ++ move ∷ []
