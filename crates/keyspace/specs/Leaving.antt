-- In which order held batches leave: this project's own rule.
use Rattle.std.specs.Prelude.{ℕ, ℤ, int_lt, int_le, if◌then◌else◌, List, [], ◌∷◌, Option, Some, None}
use Rattle.keyspace.specs.declared.batch.Batch.{Batch}

-- a batch that is held, with its proxy in front
abbrev pub Held : Type 0
Held = ℕ × Batch

-- the first of the list goes ahead of a later one unless that one has a lesser previous version
abbrev pub first_or : Held → List Held → Option (Held × List Held) → Option (Held × List Held)
first_or h hs None = Some (h, hs)
first_or h hs (Some l) = if int_lt l.0.1.previous h.1.previous then Some (l.0, h ∷ l.1) else Some (h, hs)

-- the one with the least previous version, the earliest among equals, and the others in their order
abbrev pub least_first : List Held → Option (Held × List Held)
least_first [] = None
least_first (h ∷ hs) = first_or h hs (least_first hs)

abbrev pub if_due : ℤ → Option (Held × List Held) → Option (Held × List Held)
if_due version None = None
if_due version (Some l) = if int_le l.0.1.previous version then Some l else None

-- the one that leaves next at this version, if any may, and the others
abbrev pub next_due : ℤ → List Held → Option (Held × List Held)
next_due version hs = if_due version (least_first hs)
