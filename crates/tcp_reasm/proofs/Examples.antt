-- Worked examples of the definitions, by computation.
use Rattle.std.proofs.Common.{◌≡◌, [], ◌∷◌, refl}
use Rattle.std.specs.Prelude.{pos, negsuc, Option, Some, None, take}
use Rattle.tcp_reasm.specs.declared.placed.Placed.TheVariants.{Advanced, Held, NotKept}
use Rattle.tcp_reasm.specs.Reassembly.{Cell, Inbox, empty_inbox, after_place, place_answer, after_read, blocks, window, with_ranks, runs_newest_first}

-- place 2 `cd`; place 3 `XYZ`; place 0 `ab`; window; place 2 `zz`; read 8; window
two_held : Inbox
two_held = after_place (empty_inbox 8) (pos 2) (99 ∷ 100 ∷ [])

three_more : Inbox
unfolding two_held
three_more = after_place two_held (pos 3) (88 ∷ 89 ∷ 90 ∷ [])

all_in_order : Inbox
unfolding two_held three_more
all_in_order = after_place three_more (pos 0) (97 ∷ 98 ∷ [])

early_is_held : place_answer (empty_inbox 8) (pos 2) (99 ∷ 100 ∷ []) ≡ Held
unfolding place_answer
early_is_held = refl

overlap_is_held : place_answer two_held (pos 3) (88 ∷ 89 ∷ 90 ∷ []) ≡ Held
unfolding place_answer after_place with_ranks two_held
overlap_is_held = refl

gap_fills : place_answer three_more (pos 0) (97 ∷ 98 ∷ []) ≡ Advanced 6
unfolding place_answer after_place with_ranks two_held three_more
gap_fills = refl

window_shrinks : window all_in_order ≡ 2
unfolding place_answer after_place with_ranks two_held three_more all_in_order
window_shrinks = refl

beyond_window : place_answer all_in_order (pos 2) (122 ∷ 122 ∷ []) ≡ NotKept
unfolding place_answer after_place with_ranks two_held three_more all_in_order
beyond_window = refl

first_bytes_stay : take 8 all_in_order.unread ≡ 97 ∷ 98 ∷ 99 ∷ 100 ∷ 89 ∷ 90 ∷ []
unfolding place_answer after_place with_ranks two_held three_more all_in_order
first_bytes_stay = refl

window_opens : window (after_read all_in_order 6) ≡ 8
unfolding place_answer after_place with_ranks two_held three_more all_in_order after_read
window_opens = refl

all_read : after_read all_in_order 6 ≡ empty_inbox 8
unfolding place_answer after_place with_ranks two_held three_more all_in_order after_read
all_read = refl

-- place -3 `qrs`; place -1 `pQ`; read 8
old_is_not_kept : place_answer (empty_inbox 8) (negsuc 2) (113 ∷ 114 ∷ 115 ∷ []) ≡ NotKept
unfolding place_answer after_place with_ranks
old_is_not_kept = refl

old_front_is_cut : place_answer (empty_inbox 8) (negsuc 0) (112 ∷ 81 ∷ []) ≡ Advanced 1
unfolding place_answer after_place with_ranks
old_front_is_cut = refl

rest_is_taken : (after_place (empty_inbox 8) (negsuc 0) (112 ∷ 81 ∷ [])).unread ≡ 81 ∷ []
unfolding place_answer after_place with_ranks
rest_is_taken = refl

-- 64: place 10 `a`; place 20 `b`; place 11 `c`; blocks; place 20 `z`; blocks
two_runs : Inbox
two_runs = after_place (after_place (after_place (empty_inbox 64) (pos 10) (97 ∷ [])) (pos 20) (98 ∷ [])) (pos 11) (99 ∷ [])

second_again : Inbox
unfolding two_runs
second_again = after_place two_runs (pos 20) (122 ∷ [])

newest_run_first : blocks two_runs ≡ (10, 12) ∷ (20, 21) ∷ []
unfolding two_runs after_place with_ranks blocks runs_newest_first
newest_run_first = refl

news_moves_up : blocks second_again ≡ (20, 21) ∷ (10, 12) ∷ []
unfolding two_runs second_again after_place with_ranks blocks runs_newest_first
news_moves_up = refl

stamps_are_ranks : take 22 second_again.held ≡ (let e : Option Cell = None in e ∷ e ∷ e ∷ e ∷ e ∷ e ∷ e ∷ e ∷ e ∷ e ∷ Some (record { byte = 97; stamp = 1 }) ∷ Some (record { byte = 99; stamp = 1 }) ∷ e ∷ e ∷ e ∷ e ∷ e ∷ e ∷ e ∷ e ∷ Some (record { byte = 98; stamp = 2 }) ∷ e ∷ [])
unfolding two_runs second_again after_place with_ranks
stamps_are_ranks = refl
