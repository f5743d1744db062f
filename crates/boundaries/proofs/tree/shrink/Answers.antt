use Rattle.std.proofs.Common.{arith, ◌≡◌, suc, ◌-◌, ◌∙◌, ap, refl, length, get_or}
use Rattle.arena.specs.Arena.{key_at}
use Rattle.boundaries.specs.Subtree.{items_in}
use Rattle.boundaries.proofs.Changing.{moves_released}
use Rattle.boundaries.proofs.Found.{entries_read}
use Rattle.boundaries.proofs.Headed.{headed_released}
use Rattle.boundaries.proofs.Placing.{released_spare}
use Rattle.boundaries.proofs.Rooting.{only_one, shrunk}
use Rattle.boundaries.proofs.tree.shrink.Goals as goal

pub returns : goal.returns
returns c =
    let a = c.args.store.now.nodes in
    let b = c.release.new.self in
    let slot = c.args.root.slot in
    let h = c.args.root.height - 1 in
    let es = c.entries-entries.result.now in
    let default = c.index-entries-0.result in
    let e = get_or es 0 default in
    let one : suc h ≡ c.args.root.height = omega (arith, c.if-root-eq0.false) in
    let read = entries_read a slot c.header_ref.result.now es c.header_ref.ensures.header c.entries-entries.ensures.entries in
    let can = c.requires.can_shrink in
    let free = c.release.ensures in
    let subtree = rw (← one) at can.subtree in
    let count : length es ≡ 1 = omega (arith, c.if-entries-gt1.false, subtree.1, ap length read) in
    let moves = moves_released a b slot can.sound.keyless subtree.0 free.released free.others
    (released_spare a b slot subtree.0 can.sound.keyless free.spare) in
    let root = shrunk a b h slot e subtree (read ∙ only_one es default count) (rw (← one) at can.distinct)
    (rw (← one) at can.linked) moves in
    record {
      items = root.0 ∙ ap (λ n. items_in a n slot) one;
      tree = record {
        rooted = root.1;
        spare = omega (arith, moves.live, moves.spare);
        headed = headed_released (key_at c.args.store.now.keys) a b slot can.sound.headed free.released free.others;
        raised_is = tt;
      };
      keeps = record { keys = refl; removed = refl };
    }
