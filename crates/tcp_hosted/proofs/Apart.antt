-- Pairs of sockets that are equal in their order are one.
use Rattle.std.proofs.Common.{◌≡◌, ℕ, List, [], ◌∷◌, Ordering, refl, ap, ◌∙◌, arith}
use Rattle.std.proofs.lemmas.Bool.Decides.{nat_tests}
use Rattle.std.specs.Ordering.{nat_cmp, ordering_then}
use Rattle.std.specs.Cmp.Lexicographic.{slice_cmp}
use Rattle.std.specs.declared.cmp.Ordering.TheVariants.{Less, Equal, Greater}
use Rattle.tcp_host.specs.declared.pair.Pair.{Pair}
use Rattle.tcp_host.specs.declared.pair.Socket.{Socket}

both : (a b : Ordering) → ordering_then a b ≡ Equal → (a ≡ Equal) × (b ≡ Equal)
both Less b e = absurd (cc (e))
both Equal b e = (refl, e)
both Greater b e = absurd (cc (e))

same-number : (x y : ℕ) → nat_cmp x y ≡ Equal → x ≡ y
same-number x y e = grind (arith, nat_tests)

same-list : (xs ys : List ℕ) → slice_cmp nat_cmp xs ys ≡ Equal → xs ≡ ys
same-list [] [] e = refl
same-list [] (y ∷ ys) e = absurd (cc (e))
same-list (x ∷ xs) [] e = absurd (cc (e))
same-list (x ∷ xs) (y ∷ ys) e =
    let parts = both (nat_cmp x y) (slice_cmp nat_cmp xs ys) e in
    cc (same-number x y parts.0, same-list xs ys parts.1)

abbrev socket_cmp : Socket → Socket → Ordering
socket_cmp a b = ordering_then (nat_cmp a.port b.port) (slice_cmp nat_cmp a.addr b.addr)

abbrev pub pair_cmp : Pair → Pair → Ordering
pair_cmp a b = ordering_then (socket_cmp a.peer b.peer) (socket_cmp a.local b.local)

socket : ℕ → List ℕ → Socket
socket port addr = record { port = port; addr = addr }

pair : Socket → Socket → Pair
pair peer local = record { peer = peer; local = local }

same_socket : (a b : Socket) → socket_cmp a b ≡ Equal → a ≡ b
unfolding socket
same_socket a b e =
    let parts = both (nat_cmp a.port b.port) (slice_cmp nat_cmp a.addr b.addr) e in
    ap (λ port. socket port a.addr) (same-number a.port b.port parts.0) ∙ ap (socket b.port) (same-list a.addr b.addr parts.1)

pub same_pair : (a b : Pair) → pair_cmp a b ≡ Equal → a ≡ b
unfolding pair
same_pair a b e =
    let parts = both (socket_cmp a.peer b.peer) (socket_cmp a.local b.local) e in
    ap (λ peer. pair peer a.local) (same_socket a.peer b.peer parts.0) ∙ ap (pair b.peer) (same_socket a.local b.local parts.1)
