-- `cut` cuts the units in two. Assumes `Logic`.
use Rattle.std.proofs.Common.{◌≡◌, ◌+◌, ◌-◌, ◌≤◌, ◌%◌, List, [], ◌∷◌, ◌++◌, refl, ap, ◌∙◌, arith, w64}
use mir.Syntax.{Fn}
use mir.Val.{Val, vint, vptr}
use base.Logic.{SProp, emp, id⊢}
use prog.Wp.{Env, WpFn}
use contract.Monad.{fact, fact_i}
use contract.Running.{tables}
use types.Kit.{‵, raw, ◌⊛◌, prop, at_ret, ◌$◌, ◌∵◌, !, qed, by, move, drop, use0, use1, use2, split, regoal, fsplit, fjoin}
use types.Part.{whole, sub, agg}
use types.Run.{stop, fld, bin, of_opd, no_more, and_then, first, blocks, exec, returns, enter}
use types.ByLocal.{alloc_all, pass_all, free_all, look_at, get, get_in, sets, sets_last, is, env}
use denote.RattleType.{owns}
use denote.RawPtr.{Ptr, block_ptr, in_a_block}
use denote.Signature.{types_at}
use denote.Steps.{nothing, heard}
use denote.Struct.Tuple.{Tuple}
use denote.Triple.Entry.{alive}
use denote.Triple.Walked.{Stays, stay_dropped, walk_of, Goes-dropped}
use Rattle.core.proofs.alloc.Calls.{Goes-blank}
use Rattle.core.proofs.alloc.Shapes.{after}
use Rattle.std_alloc.proofs.Pairs.{pair_of, pair_val}
use Rattle.std.proofs.raw_atomic.Walks.{proved_at, leaves}
use Rattle.linked_list_allocator.proofs.Nodes.{cuts, resized}
use Rattle.linked_list_allocator.proofs.Values.{list_val, list_own, list_told, list_made}
use Rattle.linked_list_allocator.proofs.Walks.{slot_at}
use Rattle.region_heap.specs.Memory.{bytes_at}
use Rattle.region_heap.specs.contracts.memory.Memory as memory
use Rattle.region_heap.specs.contracts.memory.Memory.cut.{ended, clauses}
use Rattle.region_heap.specs.contracts.memory.Memory.cut.Key.{name as #self}
use Rattle.region_heap.proofs.memory.Memory.cut.Statement.{statement}
use Rattle.region_heap.proofs.memory.Memory.cut.Code as compiled

pub cut_spec : {M : Type 1} → statement M
cut_spec 𝓤 𝓛 𝓜 𝓡 wired =
    let H = 𝓛.H in let c = clauses 𝓛 𝓜.mem 𝓡.returns in let fn : Fn = compiled.function in
    let C = (tables 𝓤 H 𝓜 𝓡 𝓡.env).C in let Λ = (tables 𝓤 H 𝓜 𝓡 𝓡.env).Λ in
    let me = slot_at 0 ended.signature.params in let size = slot_at 1 ended.signature.params in
    let hs : Stays ended.signature.params ended.kept = (stay_dropped me ended.kept.0, (stay_dropped size ended.kept.1.0, tt)) in
    proved_at 𝓛 ended hs c 𝓜 𝓡 (Goes-blank 𝓛 0 me ended.kept.0 (λ κs x f. tt), (Goes-dropped 𝓛 0 size ended.kept.1.0 (λ κs x f. refl), tt)) #self fn (compiled.unfolded 𝓤 H 𝓜 𝓡 wired) (λ z are.
    let Post : Val → SProp 𝓤 = (walk_of 𝓛 ended hs c).post z in
    let x = z.0.3.0 in let n = z.0.3.1.0 in let m = x.size - n in
    let Asked : Type 0 = (n % 16 ≡ 0) × (n ≤ x.size) in
    qed 𝓛 ((raw (alive 𝓛 ended.signature z.0.0 z.0.1) ⊛ ‵ (owns (types_at ended.signature.params z.0.0) z.0.3 z.0.4)) ∷ raw (fact 𝓤 Asked) ∷ []) ∵
    move ! (1 ∷ []) $ heard ! Asked (λ asked. split ! $ move ! (1 ∷ []) $ fsplit ! $ fsplit ! $ drop ! $ move ! (1 ∷ []) $ drop ! $
    in_a_block ! x.at (λ p. bytes_at p x.size) (id⊢ 𝓤 _) (λ b o e. let p : Ptr = block_ptr b o in let q : Ptr = block_ptr b (o + n) in
    use1 𝓛 (‵ (bytes_at p (n + m))) (resized 𝓛 b o x.size (n + m) (omega (arith, asked.1))) $
    use1 𝓛 (‵ (bytes_at p n) ⊛ ‵ (bytes_at q m)) (cuts 𝓛 b o n m asked.0) $ split ! $
    let told : z.0.4.0 ≡ list_val p ∷ [] = (list_told x.at z.0.4.0 are.0.0).0 ∙ (λ i. list_val (e i) ∷ []) in
    regoal ! (λ (us : List Val). prop (WpFn 𝓤 H C Λ fn us Post)) (λ i. told i ++ (are.1.0.0 i ++ [])) refl $
    enter ! C Λ fn (list_val p ∷ vint w64 n ∷ []) Post $
    alloc_all ! (λ l. pass_all ! refl ((tt, (tt, tt)), ((tt, record { fits = are.1.0.1 }), tt)) $ let En : Env 𝓤 𝓛.H = env fn.locals l in
    sets ! (of_opd ! (get_in ! (fld ! refl (stop !)) (sub ! 0 refl (whole !)))) refl (tt, tt) $
    first ! $ blocks ! $ sets_last ! (is ! (bin ! (get ! refl) (get ! refl) tt) (ap (vptr b) (omega arith))) refl (tt, tt) $
    exec ! C Λ En (after 2 fn.body) (at_ret En Post) $ sets ! (of_opd ! (get ! refl)) refl (tt, tt) $
    sets ! (agg ! (and_then ! (get ! refl) (no_more !))) refl (tt, (tt, tt)) $ sets ! (agg ! (and_then ! (get ! refl) (no_more !))) refl (tt, (tt, tt)) $
    sets ! (agg ! (and_then ! (get ! refl) (and_then ! (get ! refl) (no_more !)))) refl (tt, ((tt, tt), ((tt, tt), tt))) $
    returns ! (look_at ! 0 refl) $ free_all ! refl $
    -- [the bytes in front; those after them; the token]
    let front : (memory.the_row).Denot = record { at = p; size = n } in let rest : (memory.the_row).Denot = record { at = q; size = m } in
    use0 𝓛 (‵ (list_own p (list_val p ∷ []))) (list_made 𝓛 p tt) $ fjoin ! $ move ! (1 ∷ []) $
    use0 𝓛 (‵ (list_own q (list_val q ∷ []))) (list_made 𝓛 q tt) $ fjoin ! $ move ! (1 ∷ 0 ∷ []) $
    use2 𝓛 (‵ ((Tuple (memory.the_row ∷ memory.the_row ∷ [])).own_val (front, rest) (pair_val (list_val p) (list_val q) ∷ []))) (pair_of 𝓛 memory.the_row memory.the_row front rest (list_val p) (list_val q)) $
    use0 𝓛 (raw (fact 𝓤 ((n ≡ n) × (m ≡ m)))) (fact_i 𝓤 ((n ≡ n) × (m ≡ m)) (emp 𝓤) (refl, refl)) $ nothing ! $ nothing ! $ fjoin ! $ nothing ! $ fjoin ! $ move ! (3 ∷ 0 ∷ 2 ∷ 1 ∷ []) $
    by ! (leaves 𝓛 ended hs c z (pair_val (list_val p) (list_val q)) (front, rest) (tt, (tt, tt)) (tt, (tt, tt)))))))
