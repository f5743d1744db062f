-- What an intake answers.
use Rattle.std.specs.Prelude.{Bool, true, false, List, [], ◌∷◌}
use Rattle.lane.specs.declared.intake.Taken.{Taken}
use Rattle.lane.specs.declared.intake.Taken.TheVariants.{Item, Empty, End}

module _ {T : Type 0} where
  -- the items that an answer hands over: one or none
  abbrev pub items_of : Taken T → List T
  items_of (Item x) = x ∷ []
  items_of Empty = []
  items_of End = []

  -- a fact for the answer `Empty`
  abbrev pub IfEmpty : Taken T → Type 0 → Type 0
  IfEmpty (Item x) P = Unit {0}
  IfEmpty Empty P = P
  IfEmpty End P = Unit {0}

  -- a fact for the answer `End`
  abbrev pub IfEnd : Taken T → Type 0 → Type 0
  IfEnd (Item x) P = Unit {0}
  IfEnd Empty P = Unit {0}
  IfEnd End P = P

  -- the answer where these items were sent and not taken: the first of them, or else `End` where the port has
  -- closed
  abbrev pub next_of : List T → Bool → Taken T
  next_of (x ∷ rest) closed = Item x
  next_of [] true = End
  next_of [] false = Empty
