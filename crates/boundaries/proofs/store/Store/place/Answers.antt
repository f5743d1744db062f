use Rattle.std.proofs.Common.{[], ◌∷◌, option_map, ap, is_some, refl}
use Rattle.boundaries.proofs.Changing.{changes_if_moves, moves_placed}
use Rattle.boundaries.proofs.Headed.{headed_put}
use Rattle.boundaries.proofs.Placing.{entries_from_header, placed_spare}
use Rattle.boundaries.proofs.store.Store.place.Goals as goal

pub returns : goal.returns
returns c =
    let a = c.args.self.now.nodes in
    let b = c.place.new.self in
    let k = rw c.unwrap.ensures at c.place.ensures in
    let header = ap (option_map (λ r. r.header)) k.record in
    record {
      placed = record {
        entries = entries_from_header b c.unwrap.result c.args.node header;
        live = ap is_some k.record;
        changes = changes_if_moves a b [] (c.unwrap.result ∷ []) (moves_placed a b c.unwrap.result c.args.node
            c.requires.keyless k.was_free k.placed k.record k.others (placed_spare a b c.requires.room k.spare));
        headed = λ bytes headed all. headed_put bytes a b c.unwrap.result c.args.node all header headed k.others;
      };
      keeps = record { keys = refl; removed = refl };
    }
