-- `deallocate` does nothing. Assumes `Logic`.
use Rattle.std.proofs.Common.{List, [], ◌∷◌, ◌++◌, refl, w64}
use mir.Syntax.{Fn}
use mir.Val.{Val, vunit, vint, vptr}
use base.Logic.{SProp}
use prog.Wp.{WpFn}
use contract.Running.{tables}
use types.Kit.{‵, raw, ◌⊛◌, prop, ◌$◌, ◌∵◌, !, qed, by, move, keep, split, regoal, fjoin, feq_i}
use types.Run.{unit_lit, of_opd, returns, enter}
use types.ByLocal.{alloc_all, pass_all, free_all, look_at, sets}
use denote.RattleType.{owns}
use denote.RawPtr.{ptr_val}
use denote.Signature.{types_at}
use denote.Steps.{nothing}
use denote.Triple.Entry.{alive}
use denote.Triple.Walked.{Stays, stay_dropped, walk_of, Goes-dropped}
use Rattle.std.proofs.raw_atomic.Walks.{proved_at, leaves}
use Rattle.linked_list_allocator.proofs.Values.{ptr_typed}
use Rattle.linked_list_allocator.proofs.Walks.{slot_at}
use Rattle.region_heap.specs.contracts.still.StillAllocator.deallocate.{ended, clauses}
use Rattle.region_heap.specs.contracts.still.StillAllocator.deallocate.Key.{name as #self}
use Rattle.region_heap.proofs.still.StillAllocator.deallocate.Statement.{statement}
use Rattle.region_heap.proofs.still.StillAllocator.deallocate.Code as compiled

pub deallocate_spec : {M : Type 1} → statement M
deallocate_spec 𝓤 𝓛 𝓜 𝓡 wired =
    let H = 𝓛.H in let c = clauses 𝓛 𝓜.mem 𝓡.returns in let fn : Fn = compiled.function in
    let C = (tables 𝓤 H 𝓜 𝓡 𝓡.env).C in let Λ = (tables 𝓤 H 𝓜 𝓡 𝓡.env).Λ in let ps = ended.signature.params in let kept = ended.kept in
    let hs : Stays ps kept = (stay_dropped (slot_at 0 ps) kept.0, (stay_dropped (slot_at 1 ps) kept.1.0, (stay_dropped (slot_at 2 ps) kept.1.1.0, (stay_dropped (slot_at 3 ps) kept.1.1.1.0, tt)))) in
    proved_at 𝓛 ended hs c 𝓜 𝓡 (Goes-dropped 𝓛 1 (slot_at 0 ps) kept.0 (λ κs x f. refl), (Goes-dropped 𝓛 1 (slot_at 1 ps) kept.1.0 (λ κs x f. refl), (Goes-dropped 𝓛 1 (slot_at 2 ps) kept.1.1.0 (λ κs x f. refl), (Goes-dropped 𝓛 1 (slot_at 3 ps) kept.1.1.1.0 (λ κs x f. refl), tt)))) #self fn (compiled.unfolded 𝓤 H 𝓜 𝓡 wired) (λ z are.
    let Post : Val → SProp 𝓤 = (walk_of 𝓛 ended hs c).post z in let a = z.0.3 in
    qed 𝓛 ((raw (alive 𝓛 ended.signature z.0.0 z.0.1) ⊛ ‵ (owns (types_at ps z.0.0) a z.0.4)) ∷ raw ((c z.0.0 a).requires z.1) ∷ []) ∵ split ! $ keep ! (0 ∷ []) $
    regoal ! (λ (us : List Val). prop (WpFn 𝓤 H C Λ fn us Post)) (λ i. are.0.0 i ++ (are.1.0 i ++ (are.1.1.0.0 i ++ (are.1.1.1.0.0 i ++ [])))) refl $
    enter ! C Λ fn (vptr a.0.ref_ptr.0 a.0.ref_ptr.1 ∷ ptr_val a.1.0 ∷ vint w64 a.1.1.0 ∷ vint w64 a.1.1.1.0 ∷ []) Post $
    alloc_all ! (λ l. pass_all ! refl ((tt, tt), (ptr_typed a.1.0, ((tt, record { fits = are.1.1.0.1 }), ((tt, record { fits = are.1.1.1.0.1 }), tt)))) $
    sets ! (of_opd ! (unit_lit !)) refl (tt, tt) $ returns ! (look_at ! 0 refl) $ free_all ! refl $
    feq_i ! (List Val) (vunit ∷ []) (vunit ∷ []) refl $ nothing ! $ nothing ! $ nothing ! $ fjoin ! $ nothing ! $ fjoin ! $ nothing ! $ fjoin ! $ nothing ! $ fjoin ! $ move ! (3 ∷ 0 ∷ 2 ∷ 1 ∷ []) $
    by ! (leaves 𝓛 ended hs c z vunit tt (tt, (tt, (tt, (tt, tt)))) (tt, (tt, (tt, (tt, tt)))))))
