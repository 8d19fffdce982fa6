-- The two cases of what `take` returned, and its bytes as room for a type. Assumes `Logic`.
use Rattle.std.proofs.Common.{◌≡◌, ℕ, ◌^◌, ◌<◌, ◌≤◌, ◌%◌, List, [], ◌∷◌, ◌++◌, IfSome, None, Some, refl, sym, ap, subst, ◌∙◌, arith}
use seplogic.Ra.Ura.{Ura}
use mir.Syntax.{Ty, Width, w8, w16, w32, w64, w128}
use mir.Val.{Val, vcons, vnil, of_list, bytes}
use base.Logic.{ent, wand, via, fst∗, id⊢}
use prog.Memory.{size, capped}
use prog.Align.{Dv, align_w, align-bytes}
use prog.Capped.{capped_is, capped_small}
use types.Logic.{Logic, sem}
use types.Kit.{Item, Goal, Seq, ‵, ◌$◌, move, drop, rewrite, fsplit, fpick, feq_l}
use types.Match.{live}
use denote.RattleType.{RattleType}
use denote.RawPtr.{block_ptr, in_a_block}
use denote.Shadow.{pure_l}
use denote.Steps.{only}
use Rattle.std.specs.contracts.option.Option as option
use Rattle.linked_list_allocator.proofs.Nodes.{retypes}
use Rattle.linked_list_allocator.proofs.Values.{list_val, list_own, list_told}
use Rattle.region_heap.specs.Memory.{bytes_at, rounded}
use Rattle.region_heap.specs.contracts.memory.Memory as memory

abbrev pub Taken : RattleType
Taken = option.the_row memory.the_row

abbrev pub Told : ℕ → ℕ → Taken.Denot → Type 0
Told n a x = IfSome x (λ m. (m.size ≡ rounded n) × (n < 2 ^ 63) × (a ≤ 16))

divides_16 : (w : Width) → Dv (bytes w) 16
divides_16 w8 = tt
divides_16 w16 = tt
divides_16 w32 = tt
divides_16 w64 = tt
divides_16 w128 = tt

in_units : (n : ℕ) → rounded n % 16 ≡ 0
in_units n = omega arith

enough : (n : ℕ) → n ≤ rounded n
enough n = omega arith

pub hands_out : {M : Type 1} {𝓤 : Ura M} (𝓛 : Logic 𝓤) (τ : Ty) (b o n a : ℕ) → capped (size τ) ≡ n → n < 2 ^ 63
    → ent 𝓤 (sem 𝓛 (bytes_at (block_ptr b o) (rounded n))) (𝓛.H.room τ b o)
hands_out {𝓤 = 𝓤} 𝓛 τ b o n a sized small =
    let short : size τ < 2 ^ 63 = capped_small (size τ) (omega arith) in
    let same : n ≡ size τ = sym sized ∙ capped_is (size τ) (omega arith) in
    via 𝓤 _ (retypes 𝓛 b τ o (rounded n) (in_units n) (subst (λ (k : ℕ). k ≤ rounded n) same (enough n)) (subst (λ (k : ℕ). Dv k 16) (sym (align-bytes τ)) (divides_16 (align_w τ))))
    (fst∗ 𝓤 (𝓛.H.room τ b o) (wand 𝓤 (𝓛.H.room τ b o) (sem 𝓛 (bytes_at (block_ptr b o) (rounded n)))))

module _ {M : Type 1} {𝓤 : Ura M} {𝓛 : Logic 𝓤} {K : Type 0} {Γ : List (Item 𝓤)} {G : Goal 𝓤 𝓛.H} where
  pub taken : K → (n a : ℕ) (x : Taken.Denot) (v : Val) → Told n a x
      → ((b o : ℕ) → n < 2 ^ 63 → v ≡ live 1 (vcons (list_val (block_ptr b o)) vnil) → Seq K 𝓛 (‵ (bytes_at (block_ptr b o) (rounded n)) ∷ Γ) G)
      → (v ≡ live 0 vnil → Seq K 𝓛 Γ G) → Seq K 𝓛 (‵ (Taken.own_val x (v ∷ [])) ∷ Γ) G
  taken t n a None v told some none =
      fpick t (λ us. fsplit t $ feq_l t (λ is. fpick t (λ vss. fsplit t $ feq_l t (λ is'. drop t $ none (ap only is ∙ ap (λ (ws : List Val). live 0 (of_list ws)) is')))))
  taken t n a (Some m) v told some none =
      fpick t (λ us. fsplit t $ feq_l t (λ is. fpick t (λ vss. fsplit t $ feq_l t (λ is'. fsplit t $ move t (1 ∷ []) $ drop t $ fsplit t $ pure_l t (list_own m.at vss.0) (λ s.
      rewrite t 0 (λ (k : ℕ). ‵ (bytes_at m.at k)) told.0 refl $
      in_a_block t m.at (λ p. bytes_at p (rounded n)) (id⊢ 𝓤 _) (λ b o e.
      some b o told.1
      (ap only is ∙ ap (λ (xs : List Val). live 1 (of_list xs)) (is' ∙ ap (λ (xs : List Val). xs ++ []) (list_told m.at vss.0 s).0) ∙ (λ i. live 1 (vcons (list_val (e i)) vnil)))))))))
