-- `settled` keeps the pointer and returns the region: what may free the box owns nothing, with either allocator.
use Rattle.std.proofs.Common.{◌≡◌, List, [], ◌∷◌, ◌++◌, refl, sym, subst}
use mir.Val.{Val, vptr}
use base.Logic.{SProp, ent, emp, id⊢}
use base.Fml.{ftrue}
use prog.Wp.{WpFn}
use types.Kit.{‵, raw, ◌⊛◌, ◌$◌, ◌∵◌, !, qed, by, move, keep, split, fsplit, fjoin, rewrite, suffices, use0, use1, use2}
use types.Run.{stop, fld, of_opd, no_more, and_then, returns, enter}
use types.ByLocal.{alloc_all, pass_all, free_all, look_at, get, get_in, sets}
use types.Part.{agg, sub, whole}
use contract.Monad.{fact, fact_i}
use contract.Running.{tables}
use denote.RattleType.{RattleType, owns}
use denote.RawPtr.{block_ptr}
use denote.Signature.{types_at}
use denote.Param.{layout}
use denote.Steps.{nothing}
use denote.Struct.Tuple.{Tuple}
use denote.Triple.Walked.{Stays, stay_dropped, walk_of, Goes-dropped}
use Rattle.core.proofs.cell.Inside.{one}
use Rattle.std.proofs.raw_atomic.Walks.{proved_at, leaves}
use Rattle.std_alloc.proofs.Pairs.{pair_of, pair_val, pair_Typed}
use Rattle.region_heap.specs.contracts.region.Region as region
use Rattle.region_heap.proofs.region.Region.TheLaws as region_laws
use Rattle.region_heap.specs.contracts.region.RegionAllocator.TheImpl.{ghosts as region_ghosts}
use Rattle.region_heap.proofs.still.Still.TheLaws as heap_laws
use Rattle.region_heap.specs.contracts.still.StillAllocator.TheImpl.{ghosts}
use Rattle.linked_list_allocator.proofs.Walks.{slot_at}
use Rattle.tcp_c.specs.HostHeld.{host_row}
use Rattle.tcp_c.proofs.HostValues.{both, Heap, Loose, boxed, loose_good, loose_out, loose_in}
use Rattle.tcp_c.specs.contracts.loose.Loose+Lodging+Region.settled.{ended, clauses}
use Rattle.tcp_c.specs.contracts.loose.Loose+Lodging+Region.settled.Key.{name as #self}
use Rattle.tcp_c.proofs.loose.Loose+Lodging+Region.settled.Statement.{statement}
use Rattle.tcp_c.proofs.loose.Loose+Lodging+Region.settled.Code as code

abbrev From : RattleType
From = Loose host_row region.the_row region_laws.the_row_laws region_ghosts

abbrev Into : RattleType
Into = Loose host_row Heap heap_laws.the_row_laws ghosts

pub settled_spec : {M : Type 1} → statement M
settled_spec 𝓤 𝓛 𝓜 𝓡 wired =
    let H = 𝓛.H in let 𝓣 = tables 𝓤 H 𝓜 𝓡 𝓡.env in let c = clauses 𝓛 𝓜.mem 𝓡.returns in let fn = code.function in let L = heap_laws.the_row_laws in let LR = region_laws.the_row_laws in
    let hs : Stays ended.signature.params ended.kept = (stay_dropped (slot_at 0 ended.signature.params) ended.kept.0, (stay_dropped (slot_at 1 ended.signature.params) ended.kept.1.0, tt)) in
    proved_at 𝓛 ended hs c 𝓜 𝓡 (Goes-dropped 𝓛 0 (slot_at 0 ended.signature.params) ended.kept.0 (λ κs x f. refl), (Goes-dropped 𝓛 0 (slot_at 1 ended.signature.params) ended.kept.1.0 (λ κs x f. refl), tt)) #self fn (code.unfolded 𝓤 H 𝓜 𝓡 wired) (λ z are.
    let κs = z.0.0 in let v = z.0.3.0 in let a = z.0.3.1.0 in let Post : Val → SProp 𝓤 = (walk_of 𝓛 ended hs c).post z in let Run : List Val → SProp 𝓤 = λ ws. WpFn 𝓤 H 𝓣.C 𝓣.Λ fn ws Post in
    let g = one (layout Heap) z.0.4.1.0 ((L.lawful 𝓛).typed a z.0.4.1.0 are.1.0) in
    let asked = raw ((c κs z.0.3).requires z.1) in
    qed 𝓛 ((‵ ftrue ⊛ ‵ (owns (types_at ended.signature.params κs) z.0.3 z.0.4)) ∷ asked ∷ []) ∵ split ! $ move ! (1 ∷ []) $ fsplit ! $ move ! (1 ∷ []) $ fsplit ! $
    rewrite ! 0 (λ (us : List Val). ‵ (Heap.own_val a us)) g.1 refl $ move ! (2 ∷ []) $ loose_out host_row region.the_row LR region_ghosts ! v z.0.4.0 (λ b o h e ws fits.
    let w : Val = both (vptr b o) h in let typed = loose_good host_row region.the_row LR region_ghosts b o h fits in let made : Val = both (vptr b o) g.0 in let settled = loose_good host_row Heap L ghosts b o g.0 g.2 in
    suffices ! (Run (w ∷ g.0 ∷ [])) (subst (λ (us : List Val). ent 𝓤 (Run (w ∷ g.0 ∷ [])) (Run us)) (sym (λ i. ws i ++ (g.1 i ++ []))) (id⊢ 𝓤 (Run (w ∷ g.0 ∷ [])))) $
    enter ! 𝓣.C 𝓣.Λ fn (w ∷ g.0 ∷ []) Post $ alloc_all ! (λ l. pass_all ! refl (typed, (g.2, tt)) $
    sets ! (of_opd ! (get_in ! (fld ! refl (stop !)) (sub ! 0 refl (whole !)))) refl (tt, tt) $ sets ! (of_opd ! (get_in ! (fld ! refl (stop !)) (sub ! 1 refl (whole !)))) refl fits $
    sets ! (agg ! (and_then ! (get ! refl) (and_then ! (get ! refl) (no_more !)))) refl settled $
    sets ! (agg ! (and_then ! (get ! refl) (and_then ! (get ! refl) (no_more !)))) refl (pair_Typed (layout Into) (layout region.the_row) made h settled fits) $
    -- [the box's memory; the region; the other allocator]
    let x : Into.Denot = record { at = block_ptr b o; alloc = a; value = v.value } in
    move ! (0 ∷ 2 ∷ []) $ use1 𝓛 (‵ (boxed a (block_ptr b o) v.value)) (id⊢ 𝓤 _) $ loose_in host_row Heap L ghosts ! b o g.0 a v.value $
    use2 𝓛 (‵ ((Tuple (Into ∷ region.the_row ∷ [])).own_val (x, v.alloc) (pair_val made h ∷ []))) (pair_of 𝓛 Into region.the_row x v.alloc made h) $
    use0 𝓛 (raw (fact 𝓤 (v.value ≡ v.value))) (fact_i 𝓤 (v.value ≡ v.value) (emp 𝓤) refl) $ nothing ! $ nothing ! $ fjoin ! $ nothing ! $ fjoin ! $
    returns ! (look_at ! 0 refl) $ free_all ! refl $ keep ! (4 ∷ 0 ∷ 2 ∷ 1 ∷ []) $ by ! (leaves 𝓛 ended hs c z (pair_val made h) (x, v.alloc) (tt, (tt, tt)) (tt, (tt, tt))))))
