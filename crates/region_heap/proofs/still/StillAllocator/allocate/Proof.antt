-- `allocate` returns `Err`. Assumes `Logic`.
use Rattle.std.proofs.Common.{false, List, [], ◌∷◌, ◌++◌, refl, w64, Err}
use mir.Syntax.{Fn}
use mir.Val.{Val, vint, vptr}
use base.Logic.{SProp}
use prog.Wp.{WpFn}
use contract.Running.{tables}
use types.Kit.{‵, raw, ◌⊛◌, prop, ◌$◌, ◌∵◌, !, qed, by, move, keep, use0, split, regoal, fjoin}
use types.Part.{agg}
use types.Run.{lit, no_more, and_then, returns, enter}
use types.ByLocal.{alloc_all, pass_all, free_all, look_at, get, sets}
use denote.RattleType.{owns}
use denote.Signature.{types_at}
use denote.Steps.{nothing}
use denote.Triple.Entry.{alive}
use denote.Triple.Walked.{Stays, stay_dropped, walk_of, Goes-dropped}
use Rattle.core.proofs.alloc.Calls.{Answer, answer_val, Answer-typed, Answer-err}
use Rattle.std.proofs.raw_atomic.Walks.{proved_at, leaves}
use Rattle.linked_list_allocator.proofs.Walks.{slot_at}
use Rattle.region_heap.specs.contracts.still.StillAllocator.allocate.{ended, clauses}
use Rattle.region_heap.specs.contracts.still.StillAllocator.allocate.Key.{name as #self}
use Rattle.region_heap.proofs.still.StillAllocator.allocate.Statement.{statement}
use Rattle.region_heap.proofs.still.StillAllocator.allocate.Code as compiled

pub allocate_spec : {M : Type 1} → statement M
allocate_spec 𝓤 𝓛 𝓜 𝓡 wired =
    let H = 𝓛.H in let c = clauses 𝓛 𝓜.mem 𝓡.returns in let fn : Fn = compiled.function in
    let C = (tables 𝓤 H 𝓜 𝓡 𝓡.env).C in let Λ = (tables 𝓤 H 𝓜 𝓡 𝓡.env).Λ in let ps = ended.signature.params in let kept = ended.kept in
    let hs : Stays ps kept = (stay_dropped (slot_at 0 ps) kept.0, (stay_dropped (slot_at 1 ps) kept.1.0, (stay_dropped (slot_at 2 ps) kept.1.1.0, tt))) in
    proved_at 𝓛 ended hs c 𝓜 𝓡 (Goes-dropped 𝓛 1 (slot_at 0 ps) kept.0 (λ κs x f. refl), (Goes-dropped 𝓛 1 (slot_at 1 ps) kept.1.0 (λ κs x f. refl), (Goes-dropped 𝓛 1 (slot_at 2 ps) kept.1.1.0 (λ κs x f. refl), tt))) #self fn (compiled.unfolded 𝓤 H 𝓜 𝓡 wired) (λ z are.
    let Post : Val → SProp 𝓤 = (walk_of 𝓛 ended hs c).post z in let a = z.0.3 in
    qed 𝓛 ((raw (alive 𝓛 ended.signature z.0.0 z.0.1) ⊛ ‵ (owns (types_at ps z.0.0) a z.0.4)) ∷ raw ((c z.0.0 a).requires z.1) ∷ []) ∵ split ! $ keep ! (0 ∷ []) $
    regoal ! (λ (us : List Val). prop (WpFn 𝓤 H C Λ fn us Post)) (λ i. are.0.0 i ++ (are.1.0.0 i ++ (are.1.1.0.0 i ++ []))) refl $
    enter ! C Λ fn (vptr a.0.ref_ptr.0 a.0.ref_ptr.1 ∷ vint w64 a.1.0 ∷ vint w64 a.1.1.0 ∷ []) Post $
    alloc_all ! (λ l. pass_all ! refl ((tt, tt), ((tt, record { fits = are.1.0.1 }), ((tt, record { fits = are.1.1.0.1 }), tt))) $
    sets ! (agg ! (no_more !)) refl (tt, tt) $ sets ! (agg ! (and_then ! (lit ! tt) (and_then ! (get ! refl) (no_more !)))) refl (Answer-typed false 0 0) $ returns ! (look_at ! 0 refl) $ free_all ! refl $
    use0 𝓛 (‵ (Answer.own_val (Err (record {})) (answer_val false 0 0 ∷ []))) (Answer-err 𝓛) $ nothing ! $ nothing ! $ nothing ! $ fjoin ! $ nothing ! $ fjoin ! $ nothing ! $ fjoin ! $ move ! (3 ∷ 0 ∷ 2 ∷ 1 ∷ []) $
    by ! (leaves 𝓛 ended hs c z (answer_val false 0 0) (Err (record {})) (tt, (tt, (tt, tt))) (tt, (tt, (tt, tt))))))
