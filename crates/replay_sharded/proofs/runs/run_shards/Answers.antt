use Rattle.std.proofs.Common.{◌≡◌, ◌≤◌, List, [], ◌∷◌, ◌++◌, rules, refl, ap, sym, subst, ◌∙◌, append_assoc, append-nil, arith, Global}
use Rattle.std.specs.Prelude.{map, vec_items, vec_len}
use Rattle.std.specs.List.{All, AllZip}
use Rattle.std.specs.Vec.Iter.{into_iter_items}
use Rattle.std.specs.declared.vec.Vec.{Vec}
use Rattle.std.proofs.lemmas.Grind.{common_steps}
use Rattle.std.proofs.lemmas.List.{map-append}
use Rattle.std.proofs.lemmas.List.Elements.{All-head, All-tail}
use Rattle.std.proofs.lemmas.Result.{IfOk-weaker}
use Rattle.serial.specs.Shards.{shards}
use Rattle.limits.specs.declared.settings.TheConstants.{MAX_PROXIES}
use Rattle.replay_output.specs.declared.options.Options.{Options}
use Rattle.replay_shards.specs.declared.clips.Clips.{Clips}
use Rattle.replay_sharded.specs.declared.runs.StartedShards.{StartedShards}
use Rattle.replay_sharded.specs.Files.{AreFresh}
use Rattle.replay_sharded.specs.Runs.{given_to, keeping_options}
use Rattle.replay_sharded.proofs.Works.{IsDone, given_by, proxies_each, runs_of}
use Rattle.replay_sharded.proofs.runs.run_shards.Goals as goal

pub start-requires-clause-least : goal.start-requires-clause-least
start-requires-clause-least g c κs within =
    let Fits : Vec (Clips g.row.S.Denot) Global → Type 0 = λ clips. (1 ≤ vec_len clips) × (vec_len clips ≤ MAX_PROXIES) in
    (All-head Fits c.in-Some.clips (into_iter_items c.next.new.self)
    (subst (All Fits) c.in-Some.ensures.steps.0 c.loop-clips.invariant.proxies)).0

pub start-requires-clause-most : goal.start-requires-clause-most
start-requires-clause-most g c κs within =
    let Fits : Vec (Clips g.row.S.Denot) Global → Type 0 = λ clips. (1 ≤ vec_len clips) × (vec_len clips ≤ MAX_PROXIES) in
    (All-head Fits c.in-Some.clips (into_iter_items c.next.new.self)
    (subst (All Fits) c.in-Some.ensures.steps.0 c.loop-clips.invariant.proxies)).1

pub start-requires-clause-fresh : goal.start-requires-clause-fresh
start-requires-clause-fresh g c κs within =
    All-head AreFresh c.in-Some.clips.items (map vec_items (into_iter_items c.next.new.self))
    (subst (λ (l : List (Vec (Clips g.row.S.Denot) Global)). All AreFresh (map vec_items l)) c.in-Some.ensures.steps.0
    c.loop-clips.invariant.fresh)

pub loop-clips-preserved : goal.loop-clips-preserved
loop-clips-preserved g c =
    let Fits : Vec (Clips g.row.S.Denot) Global → Type 0 = λ clips. (1 ≤ vec_len clips) × (vec_len clips ≤ MAX_PROXIES) in
    let options = keeping_options c.args.options in
    let before = c.loop-clips.invariant in
    let clips = c.in-Some.clips in
    let rest = into_iter_items c.next.new.self in
    let steps = c.in-Some.ensures.steps.0 in
    let old = c.loop-clips.started.items in
    let shard = c.in_ok-start.field-0 in
    let given : given_to shard ≡ given_by options clips =
    c.in_ok-start.ensures.given ∙ ap (λ (o : Options). (o, clips.items)) c.keeping-options.ensures.keeping in
    record {
      given =
          ap (λ (l : List (StartedShards g.row.S.Denot)). map given_to l ++ map (given_by options) rest) c.push_reserved.ensures.items
          ∙ ap (λ (l : List (Options × List (Clips g.row.S.Denot))). l ++ map (given_by options) rest)
          (map-append given_to old (shard ∷ []))
          ∙ append_assoc (map given_to old) (given_to shard ∷ []) (map (given_by options) rest)
          ∙ ap (λ (one : Options × List (Clips g.row.S.Denot)). map given_to old ++ one ∷ map (given_by options) rest) given
          ∙ ap (λ (l : List (Vec (Clips g.row.S.Denot) Global)). map given_to old ++ map (given_by options) l) (sym steps) ∙ before.given;
      proxies = All-tail Fits clips rest (subst (All Fits) steps before.proxies);
      fresh =
          All-tail AreFresh clips.items (map vec_items rest)
          (subst (λ (l : List (Vec (Clips g.row.S.Denot) Global)). All AreFresh (map vec_items l)) steps before.fresh);
      as_many = grind (arith, common_steps);
      room = grind (arith, common_steps);
      all = grind (arith, common_steps);
    }

pub returns-clause-runs : goal.returns-clause-runs
returns-clause-runs g c =
    let remaining = g.S.Source.remaining in
    let options = keeping_options c.args.options in
    let given = map given_to c.loop-clips.started.items in
    let none : into_iter_items c.loop-clips.clips-iterator ≡ [] = first_of (search rules, grind (arith, common_steps)) in
    let entire =
    sym (append-nil given)
    ∙ ap (λ (l : List (Vec (Clips g.row.S.Denot) Global)). given ++ map (given_by options) l) (sym none)
    ∙ c.loop-clips.invariant.given in
    IfOk-weaker c.join_all.result _ _
    (λ runs works points files of.
    runs_of remaining options files c.args.each.items runs.items (shards points)
    (subst (λ (l : List (Options × List (Clips g.row.S.Denot))). AllZip (IsDone remaining options) l runs.items) entire works) of)
    c.join_all.ensures.runs

pub returns-clause-proxies : goal.returns-clause-proxies
returns-clause-proxies g c =
    let remaining = g.S.Source.remaining in
    let options = keeping_options c.args.options in
    let given = map given_to c.loop-clips.started.items in
    let none : into_iter_items c.loop-clips.clips-iterator ≡ [] = first_of (search rules, grind (arith, common_steps)) in
    let entire =
    sym (append-nil given)
    ∙ ap (λ (l : List (Vec (Clips g.row.S.Denot) Global)). given ++ map (given_by options) l) (sym none)
    ∙ c.loop-clips.invariant.given in
    IfOk-weaker c.join_all.result _ _
    (λ runs works.
    proxies_each remaining options refl c.args.each.items runs.items
    (subst (λ (l : List (Options × List (Clips g.row.S.Denot))). AllZip (IsDone remaining options) l runs.items) entire works))
    c.join_all.ensures.runs
