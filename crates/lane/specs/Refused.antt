-- The item that a refusal to send returns.
use Rattle.lane.specs.declared.port.Refused.{Refused}
use Rattle.lane.specs.declared.port.Refused.TheVariants.{Full, Closed, Worn}

-- the item that was not sent
abbrev pub item_of : {T : Type 0} → Refused T → T
item_of (Full x) = x
item_of (Closed x) = x
item_of (Worn x) = x
