-- `into_box` makes the box again.
use Rattle.std.proofs.Common.{[], ◌∷◌, refl}
use mir.Raw.{raw as bare}
use mir.Val.{Val}
use base.Logic.{SProp}
use base.Fml.{ftrue}
use types.Kit.{‵, raw, ◌⊛◌, ◌$◌, ◌∵◌, !, qed, by, move, keep, split, fsplit}
use denote.Exit.{yes, no}
use denote.RattleType.{RattleType, owns}
use denote.Signature.{types_at, plain}
use denote.Param.{layout, arg}
use denote.Param.Laws.{Laws, arg_laws}
use denote.Triple.Walked.{Stays, stay_dropped, Goes-dropped, walk_of}
use Rattle.std.proofs.raw_atomic.Walks.{proved_at, leaves}
use Rattle.archcaraway_c.specs.contracts.set_object.SetObject as held
use Rattle.archcaraway_c.proofs.set_object.SetObject.TheLaws as held_laws
use Rattle.archcaraway_c.specs.contracts.set_handle.SetHandle as handle
use Rattle.archcaraway_c.specs.contracts.set_handle.SetHandle.into_box.{ended, clauses}
use Rattle.archcaraway_c.specs.contracts.set_handle.SetHandle.into_box.Key.{name as #self}
use Rattle.archcaraway_c.proofs.HandleBoxes.{code_of, into_box_runs}
use Rattle.archcaraway_c.proofs.set_handle.SetHandle.into_box.Statement.{statement}
use Rattle.archcaraway_c.proofs.set_handle.SetHandle.into_box.Code as code

pub into_box_spec : {M : Type 1} → statement M
into_box_spec 𝓤 𝓛 𝓜 𝓡 wired =
    let T : RattleType = arg (bare (layout held.the_row)) no held.the_row in let L : Laws T = arg_laws (bare (layout held.the_row)) no held.the_row held_laws.the_row_laws refl in
    let c = clauses 𝓛 𝓜.mem 𝓡.returns in let hs : Stays ended.signature.params ended.kept = (stay_dropped (plain (λ _. handle.the_row)) yes, tt) in
    let name = handle.struct.name in
    proved_at 𝓛 ended hs c 𝓜 𝓡 (Goes-dropped 𝓛 0 (plain (λ _. handle.the_row)) yes (λ κs x f. refl), tt) #self (code_of T L name) (code.unfolded 𝓤 𝓛.H 𝓜 𝓡 wired) (λ z are.
    let v = z.0.3.0 in let Post : Val → SProp 𝓤 = (walk_of 𝓛 ended hs c).post z in
    qed 𝓛 ((‵ ftrue ⊛ ‵ (owns (types_at ended.signature.params z.0.0) z.0.3 z.0.4)) ∷ raw ((c z.0.0 z.0.3).requires z.1) ∷ []) ∵ split ! $ move ! (1 ∷ []) $ fsplit ! $ keep ! (0 ∷ []) $
    by ! (into_box_runs T L name held_laws.the_within 𝓤 𝓛 𝓜 𝓡 (code.calls-archcaraway_c::Destruct++none::drop 𝓡.env wired) (code.calls-std_alloc::boxed::Box::from_raw 𝓡.env wired)
    (code.calls-std_heap::GlobalAllocator::allocate 𝓡.env wired) (code.calls-std_heap::GlobalAllocator::deallocate 𝓡.env wired) (code.calls-std_heap::GlobalAllocator::grow 𝓡.env wired) (code.calls-std_heap::GlobalAllocator::shrink 𝓡.env wired)
    v.at v.alloc v.value z.0.4.0 Post (λ u r. leaves 𝓛 ended hs c z u r (tt, tt) (tt, tt))))
