use Rattle.std.proofs.Common.{◌≡◌, ◌<◌, length, get_or, sym, ◌∙◌, ap, arith}
use Rattle.std.specs.Int.{int_max}
use Rattle.std.proofs.lemmas.Int.{ints, clamps}
use Rattle.std.proofs.lemmas.List.{get_or_default}
use mir.Syntax.{w64}
use mir.Val.{to_z, of_z}
use Rattle.stepmap.specs.Cell.{bound_of, empty_cell}
use Rattle.stepmap.specs.Filter.{FilterState, bound_in, cell_at}
use Rattle.stepmap.proofs.filter.Filter.bound_at.Goals as goal

pub returns : goal.returns
unfolding bound_in
returns c =
    let cells = c.self.inside.cells.items in
    let count = ap (λ (f : FilterState). length f.cells) c.self.view_is in
    let within : c.cell.result < length cells = omega (arith, c.cell.ensures.within, count) in
    let read = get_or_default cells c.cell.result c.index.result.now empty_cell within in
    let at = c.cell.ensures.cell ∙ ap (λ n. cell_at n c.args.hash) (sym count) in
    let cell = ap (λ cell. bound_of cell c.args.hash) (c.index.ensures ∙ read ∙ ap (λ i. get_or cells i empty_cell) at) in
    let greater : to_z w64 (of_z w64 c.max.result)
    ≡ int_max (bound_of (get_or cells (cell_at (length cells) c.args.hash) empty_cell) c.args.hash) c.self.inside.newest_range =
    omega (arith, ints, clamps, c.max.ensures.value, c.bound.ensures.bound, cell) in
    record { bound = greater ∙ ap (λ (f : FilterState). bound_in f c.args.hash) c.self.view_is }
