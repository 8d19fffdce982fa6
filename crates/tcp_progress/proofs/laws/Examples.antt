-- An end that holds sixteen runs: another early piece is refused, and the segment that is next is taken. It may send, and answers
-- an old SYN.
use Rattle.tcp_replay.proofs.Words.{◌++◌, [], Advanced, after_connect, after_listen, AlwaysHolds, arith, Cell, Config, Connect, Content, default_limit}
use Rattle.tcp_replay.proofs.Words.{effect_of, Established, false, Inbox, inl, ints, is_acceptable, is_foreign, length, List, new_end, new_sending}
use Rattle.tcp_replay.proofs.Words.{new_world_with, None, NotKept, offset, Option, party_after_connect, party_after_listen, place_answer, pos, position_of}
use Rattle.tcp_replay.proofs.Words.{refl, run_of, runs, Some, State, suc, true, zero, ℕ, ◌∷◌, ◌≡◌}
use Rattle.tcp_progress.proofs.Words.{A, AreOpening, B, IsInFlight, IsNext, IsUnacceptable, IsUnsent, MayAnswer, MaySend}
use Rattle.tcp_replay.specs.Events.{Listen}

-- n held bytes, each behind a missing one
every_other : ℕ → List (Option Cell)
every_other zero = []
every_other (suc n) = None ∷ Some (record { byte = n; stamp = suc n }) ∷ every_other n

full : Inbox
full = record { capacity = 34; most_runs = 16; unread = []; held = every_other 16 ++ None ∷ None ∷ [] }

config : Config
config = record {
  addr = record { 0 = 10 ∷ 0 ∷ 0 ∷ 2 ∷ [] };
  port = 2;
  isn = record { 0 = 5000 };
  mss = 1460;
  send_capacity = 40;
  recv_capacity = 34;
  window_shift = None;
  sack = true;
  limit = default_limit;
}

holding : State
holding = record (new_end config) {
  phase = Established;
  peer = record { addr = record { 0 = 10 ∷ 0 ∷ 0 ∷ 1 ∷ [] }; port = 1 };
  sending = record (new_sending 40) { snd_una = 1; snd_nxt = 1 };
  receiving = record { opened = true; rcv_nxt = 1001; ordered = 0; finished = false; inbox = full };
}

-- an old SYN; and one byte that is old, with the next
old_syn : Content
old_syn = record { src_port = 1; dst_port = 2; seq = 1000; ack = 0; reserved = 0; flags = 2; window = 100; urgent = 0; options = []; pad = 0; text = [] }

covers-all : Content
unfolding old_syn
covers-all = record old_syn { ack = 5001; flags = 16; text = 97 ∷ 98 ∷ [] }

sixteen_held : length (runs full.held) ≡ 16
unfolding full every_other
sixteen_held = refl

seventeenth_refused : place_answer full (pos 33) (99 ∷ []) ≡ NotKept
unfolding place_answer full every_other
seventeenth_refused = refl

next_advances : place_answer full (pos 0) (98 ∷ []) ≡ Advanced 2
unfolding place_answer full every_other
next_advances = refl

holding_sound : AlwaysHolds holding
unfolding holding config full every_other
holding_sound = record {
  within = (record { size = refl; queued = omega arith }, record { size = refl; received = refl });
  sends = record { order = omega arith; most = omega arith; limit = omega arith; snd_wnd = omega arith; queued = omega arith };
  inbox = record { least = omega arith; most = omega arith; whole = refl; least_runs = omega arith; most_of_runs = omega arith; few = omega arith; missing = refl };
  next = omega arith;
  ordered = omega arith;
}

covering_next : IsNext holding (10 ∷ 0 ∷ 0 ∷ 1 ∷ []) (10 ∷ 0 ∷ 0 ∷ 2 ∷ []) covers-all
unfolding holding config full every_other covers-all offset position_of is_foreign
covering_next = record {
  phase = refl;
  mine = refl;
  plain = record { no_rst = refl; no_syn = refl; has_ack = refl; of_sent = omega arith; of_syn = λ never. absurd (cc) };
  begins = omega (arith, ints);
  ends = omega (arith, ints);
  within = omega (arith, ints);
}

-- three bytes are queued, and so many of them are sent; the peer reported that it holds the second, and its window is zero
sent : ℕ → State
sent n = record holding {
  sending = record (new_sending 40)
      { snd_una = 1; snd_nxt = suc n; queue = record { capacity = 40; most_runs = 16; bytes = 97 ∷ 98 ∷ 99 ∷ []; marks = false ∷ true ∷ false ∷ [] } };
}

sent_may_send : MaySend (sent 3)
unfolding sent holding config
sent_may_send = record { phase = refl; reset = refl; syn = refl; limit = omega arith }

held_in_flight : IsInFlight (sent 3).sending 2
unfolding sent
held_in_flight = record { unacknowledged = omega arith; sent = omega arith; queued = omega arith; most = omega arith }

text_unsent : IsUnsent (sent 0)
unfolding sent
text_unsent = record { idle = refl; waits = inl (omega arith); range = tt }

holding_may_answer : MayAnswer holding
unfolding holding config
holding_may_answer = record { phase = refl; reset = refl; syn = refl; limit = omega arith; range = tt }

old_syn_unacceptable : IsUnacceptable holding (10 ∷ 0 ∷ 0 ∷ 1 ∷ []) (10 ∷ 0 ∷ 0 ∷ 2 ∷ []) old_syn
unfolding holding config full every_other old_syn is_foreign is_acceptable
old_syn_unacceptable = record { mine = refl; no_rst = refl; outside = refl; untaken = refl }

-- where B listens and A connects they are opening the connection
opening_begins : (life : ℕ) (a b : Config) → let w = run_of (new_world_with life a b) (Listen B ∷ Connect A ∷ []) in AreOpening w.a w.b
unfolding run_of effect_of party_after_connect party_after_listen after_connect after_listen
opening_begins life a b = record { calls = refl; answers = inl refl }
