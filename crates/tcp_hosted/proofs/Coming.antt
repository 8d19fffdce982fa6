-- What comes to a host is handed to the end of its four values.
use Rattle.std.proofs.Common.{◌≡◌, ◌<◌, ◌≤◌, ◌⊎◌, inl, inr, get_or, length, ℕ, Bool, true, false, true≢false, if◌then◌else◌, List, Option, Some, None, refl, sym, ap, subst, ◌∙◌, Decides}
use Rattle.std.proofs.lemmas.Bool.Decides.{Decides-and, Decides-eqb, Decides-like, not_from_Decides}
use Rattle.std.proofs.lemmas.Slice.Eq.{bytes_eq-Decides}
use Rattle.std.proofs.lemmas.Bool.{cases_lt}
use Rattle.std.proofs.lemmas.List.{get_or-set_same, get_or_past}
use Rattle.std.specs.Prelude.{option_map, bytes_eq, ◌==◌, IsSomeAnd}
use Rattle.std.specs.declared.cmp.Ordering.TheVariants.{Equal}
use Rattle.tcp_table.specs.declared.held.Held.{Held}
use Rattle.tcp_table.specs.Table.{HasKey, held_at, revalued, value_at, with_value}
use Rattle.tcp_host.specs.declared.guest.Guest.{Guest}
use Rattle.tcp_host.specs.declared.pair.Pair.{Pair}
use Rattle.tcp_host.specs.declared.pair.Socket.{Socket}
use Rattle.tcp_host.specs.Behaviour.{Behaviour}
use Rattle.tcp_host.specs.Hosting.{Hosting, IsFor, after_call, end_at}
use Rattle.tcp_host.specs.Pair.{pair_of}
use Rattle.tcp_hosted.proofs.Apart.{pair_cmp, same_pair}
use Rattle.tcp_hosted.specs.Coming.{HandsOn, at_host, is_pair, is_socket}

-- a place that has something is one of the list
within : {X : Type 0} (xs : List (Option X)) (i : ℕ) (x : X) → get_or xs i None ≡ Some x → i < length xs
within xs i x is = by (cases_lt i (length xs))
  where
    by : (i < length xs) ⊎ (length xs ≤ i) → i < length xs
    by (inl inside) = inside
    by (inr past) = absurd (cc (get_or_past xs i None past, is))

-- ---- THE SAME FOUR VALUES are one pair
socket : List ℕ → ℕ → Socket
socket addr port = record { port = port; addr = addr }

pair : Socket → Socket → Pair
pair local peer = record { peer = peer; local = local }

socket-decides : (one other : Socket) → Decides (is_socket one other) (one ≡ other)
unfolding socket
socket-decides one other =
    Decides-like (is_socket one other)
    (λ same. ap (λ addr. socket addr one.port) same.0 ∙ ap (socket other.addr) same.1)
    (λ e. (ap (λ (s : Socket). s.addr) e, ap (λ (s : Socket). s.port) e))
    (Decides-and (bytes_eq one.addr other.addr) (one.port == other.port) (bytes_eq-Decides one.addr other.addr) (Decides-eqb one.port other.port))

pub pair-decides : (own other : Pair) → Decides (is_pair own (Some other)) (other ≡ own)
unfolding pair
pair-decides own other =
    Decides-like (is_pair own (Some other))
    (λ same. ap (λ local. pair local other.peer) same.0 ∙ ap (pair own.local) same.1)
    (λ e. (ap (λ (p : Pair). p.local) e, ap (λ (p : Pair). p.peer) e))
    (Decides-and (is_socket other.local own.local) (is_socket other.peer own.peer) (socket-decides other.local own.local) (socket-decides other.peer own.peer))

-- ---- A HOST HANDS ON
module _ {S L : Type 0} (b : Behaviour S) (old new : Hosting S L) (now : ℕ) (src dst bytes : List ℕ) (vouched : Bool) where
  abbrev IsFor' : ℕ → Type 0
  IsFor' slot = IsFor pair_cmp old.ends src dst bytes slot

  abbrev ended : S → S
  ended end = b.arrived end now src dst bytes vouched

  module _ (state : (slot : ℕ) → IsFor' slot → IsSomeAnd (value_at old.ends slot) (λ guest. new.ends ≡ with_value old.ends slot (after_call guest (ended guest.end))))
      (others : (slot : ℕ) → (IsFor' slot → ⊥) → held_at new.ends slot ≡ held_at old.ends slot) where
    -- what is under a pair stays there, and is this then
    abbrev Handed : Pair → ℕ → (S → S) → Type 0
    Handed own slot does = HasKey pair_cmp new.ends own slot × IsSomeAnd (end_at old.ends slot) (λ end. end_at new.ends slot ≡ Some (does end))

    from-held : (own : Pair) (slot : ℕ) (does : S → S) (was is : Held Pair (Guest S)) → held_at old.ends slot ≡ Some was → held_at new.ends slot ≡ Some is
        → is.key ≡ was.key → is.value.end ≡ does was.value.end → pair_cmp own was.key ≡ Equal → Handed own slot does
    from-held own slot does was is e at key end own_key = (
      subst (λ (o : Option (Held Pair (Guest S))). IsSomeAnd o (λ h. pair_cmp own h.key ≡ Equal)) (sym at) (ap (pair_cmp own) key ∙ own_key),
      subst (λ (o : Option (Held Pair (Guest S))).
          IsSomeAnd (option_map (λ g. g.end) (option_map (λ h. h.value) o)) (λ was. end_at new.ends slot ≡ Some (does was))) (sym e)
          (ap (λ (o : Option (Held Pair (Guest S))). option_map (λ g. g.end) (option_map (λ h. h.value) o)) at ∙ ap Some end),
    )

    changed : (own : Pair) (slot : ℕ) (held : Held Pair (Guest S)) → held_at old.ends slot ≡ Some held → pair_cmp own held.key ≡ Equal
        → IsSomeAnd (value_at old.ends slot) (λ guest. new.ends ≡ with_value old.ends slot (after_call guest (ended guest.end)))
        → Handed own slot ended
    changed own slot held e key h =
        let end = after_call held.value (ended held.value.end) in
        let is : new.ends ≡ with_value old.ends slot end =
        subst (λ (o : Option (Held Pair (Guest S))). IsSomeAnd (option_map (λ h. h.value) o)
        (λ guest. new.ends ≡ with_value old.ends slot (after_call guest (ended guest.end)))) e h in
        let at : held_at new.ends slot ≡ Some (revalued end held) =
        ap (λ t. held_at t slot) is ∙ get_or-set_same old.ends.slots slot (option_map (revalued end) (held_at old.ends slot)) None (within old.ends.slots slot held e)
        ∙ ap (option_map (revalued end)) e in
        from-held own slot ended held (revalued end held) e at refl refl key

    kept : (own : Pair) (slot : ℕ) (held : Held Pair (Guest S)) → held_at old.ends slot ≡ Some held → pair_cmp own held.key ≡ Equal
        → held_at new.ends slot ≡ held_at old.ends slot → Handed own slot (λ end. end)
    kept own slot held e key same = from-held own slot (λ end. end) held held e (same ∙ e) refl refl key

    -- it is handed what has its four values, and nothing else
    by-pair : (own : Pair) (slot : ℕ) (held : Held Pair (Guest S)) → held_at old.ends slot ≡ Some held → pair_cmp own held.key ≡ Equal
        → (o : Option Pair) → pair_of src dst bytes ≡ o → (handed : Bool) → is_pair own o ≡ handed
        → Handed own slot (λ end. if handed then ended end else end)
    by-pair own slot held e key None found true is = absurd (true≢false (sym is))
    by-pair own slot held e key None found false is =
        kept own slot held e key (others slot (λ it. subst (λ (o : Option Pair). IsSomeAnd o (λ pair. HasKey pair_cmp old.ends pair slot)) found it))
    by-pair own slot held e key (Some other) found true is =
        let same : other ≡ own = (pair-decides own other).0 is in
        changed own slot held e key (state slot (subst (λ (o : Option Pair). IsSomeAnd o (λ pair. HasKey pair_cmp old.ends pair slot)) (sym found)
        (subst (λ (o : Option (Held Pair (Guest S))). IsSomeAnd o (λ h. pair_cmp other h.key ≡ Equal)) (sym e) (ap (λ p. pair_cmp p held.key) same ∙ key))))
    by-pair own slot held e key (Some other) found false is =
        kept own slot held e key (others slot (λ it.
        let there = subst (λ (o : Option Pair). IsSomeAnd o (λ pair. HasKey pair_cmp old.ends pair slot)) found it in
        let equal = subst (λ (o : Option (Held Pair (Guest S))). IsSomeAnd o (λ h. pair_cmp other h.key ≡ Equal)) e there in
        not_from_Decides (is_pair own (Some other)) (pair-decides own other) is (same_pair other held.key equal ∙ sym (same_pair own held.key key))))

    pub hands_on : HandsOn b pair_cmp old new now src dst bytes vouched
    hands_on own slot has = by (held_at old.ends slot) refl has
      where
        by : (o : Option (Held Pair (Guest S))) → held_at old.ends slot ≡ o → IsSomeAnd o (λ h. pair_cmp own h.key ≡ Equal)
            → Handed own slot (λ end. at_host b own end now src dst bytes vouched)
        by None e h = absurd h
        by (Some held) e h = by-pair own slot held e h (pair_of src dst bytes) refl (is_pair own (pair_of src dst bytes)) refl
