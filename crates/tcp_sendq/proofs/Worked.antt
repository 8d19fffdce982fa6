-- The definitions at worked calls: they compute to what the calls must return.
use Rattle.std.proofs.Common.{◌≡◌, ℕ, Bool, true, false, List, [], ◌∷◌, ◌++◌, replicate, Some, None, refl}
use Rattle.tcp_sendq.specs.SendQueue.{Queue, empty_queue, room, count_taken, after_offer, after_release, can_mark, after_mark, without_marks, next_unmarked, last_mark_end, count_runs, runs_begun, count_marked}

abbrev letters : List ℕ
letters = 97 ∷ 98 ∷ 99 ∷ 100 ∷ 101 ∷ 102 ∷ []

-- of six bytes a queue of four takes four
four_taken : count_taken (empty_queue 4) letters ≡ 4
four_taken = refl

abbrev full : Queue
full = after_offer (empty_queue 4) letters

no_room_left : room full ≡ 0
no_room_left = refl

-- three are released, three others offered
refilled : (after_offer (after_release full 3) (120 ∷ 121 ∷ 122 ∷ [])).bytes ≡ 100 ∷ 120 ∷ 121 ∷ 122 ∷ []
refilled = refl

-- ten bytes, of which the peer reports those at 2 and 3 as received, and then the one at 4
abbrev ten : Queue
ten = record { capacity = 16; most_runs = 16; bytes = replicate 10 0; marks = replicate 10 false }

unfoldable told : Queue
told = after_mark (after_mark ten 2 4) 4 5

told-marks : told.marks ≡ false ∷ false ∷ true ∷ true ∷ true ∷ replicate 5 false
unfolding told after_mark can_mark
told-marks = refl

unmarked_at_0 : next_unmarked told 0 ≡ Some (0, 2)
unfolding told after_mark can_mark next_unmarked
unmarked_at_0 = refl

unmarked_at_2 : next_unmarked told 2 ≡ Some (5, 10)
unfolding told after_mark can_mark next_unmarked
unmarked_at_2 = refl

told_end : last_mark_end told ≡ Some 5
unfolding told after_mark can_mark last_mark_end
told_end = refl

-- three bytes are released, with their marks
unmarked_later : next_unmarked (after_release told 3) 0 ≡ Some (2, 7)
unfolding told after_mark can_mark next_unmarked
unmarked_later = refl

later_end : last_mark_end (after_release told 3) ≡ Some 2
unfolding told after_mark can_mark last_mark_end
later_end = refl

forgotten_end : last_mark_end (without_marks told) ≡ None
unfolding told after_mark can_mark without_marks last_mark_end
forgotten_end = refl

-- sixteen runs of one byte each, with a gap after each
abbrev sixteen : List Bool
sixteen = true ∷ false ∷ true ∷ false ∷ true ∷ false ∷ true ∷ false ∷ true ∷ false ∷ true ∷ false ∷ true ∷ false ∷ true ∷ false
    ∷ true ∷ false ∷ true ∷ false ∷ true ∷ false ∷ true ∷ false ∷ true ∷ false ∷ true ∷ false ∷ true ∷ false ∷ true ∷ false ∷ []

sixteen_runs : count_runs false sixteen ≡ 16
sixteen_runs = refl

sixteen_begun : runs_begun sixteen ≡ 16
sixteen_begun = refl

sixteen_marked : count_marked sixteen ≡ 16
sixteen_marked = refl

abbrev crowded : Queue
crowded = record { capacity = 40; most_runs = 16; bytes = replicate 36 0; marks = sixteen ++ replicate 4 false }

-- a 17th can't be kept, one that continues another can
no_seventeenth : can_mark crowded 33 35 ≡ false
unfolding can_mark
no_seventeenth = refl

longer_sixteenth : can_mark crowded 31 35 ≡ true
unfolding can_mark
longer_sixteenth = refl

nothing_changed : after_mark crowded 33 35 ≡ crowded
unfolding after_mark can_mark
nothing_changed = refl
