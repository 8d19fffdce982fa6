-- What a party's methods do, step by step, is what the definitions say.
use Rattle.tcp_replay.proofs.Words.{◌&&◌, ◌++◌, ◌-◌, ◌==◌, ◌||◌, ◌↔◌, ◌∙◌, ◌∷◌, ◌≡◌, ◌≤◌, [], A, advertised_window, after_due, after_read, after_receive, ap}
use Rattle.tcp_replay.proofs.Words.{arith, B, bytes_of, bytes_unless, Config, ConfigError, destination_of, drop, drop_min, Due, due_of, emitted_bytes, Err}
use Rattle.tcp_replay.proofs.Words.{HasBadCapacity, HasBadLimit, HasBadMss, HasBadShift, HasFault, header_len, Inbox, IsGoodConfig, length, length_encoded}
use Rattle.tcp_replay.proofs.Words.{List, min, NamesFault, nat_lt, None, Ok, Option, option_map, option_to_list, outcome_out, party_out, PartyState}
use Rattle.tcp_replay.proofs.Words.{receive_refusal, received_bytes, refl, replicate, Result, segment_as, segment_of, sent_by, SentSegment, Side, Some, State}
use Rattle.tcp_replay.proofs.Words.{state_unless, suc, sym, take, take_min, takes_text, with_bytes_received, WorldError, WorldState, zero, ℕ}
use Rattle.tcp_halves.specs.declared.config.ConfigError.TheVariants as faults
use Rattle.tcp_replay.specs.declared.outcome.WorldError.TheVariants as worlds
use Rattle.tcp_replay.specs.declared.outcome.Outcome.TheVariants as outcomes

-- EMISSION: what goes out has a header
least-due : (s : State) (due : Option Due) (bytes : List ℕ) → Some bytes ≡ option_map (bytes_of s) due → header_len ≤ length bytes
unfolding bytes_of
least-due s None bytes e = absurd (cc)
least-due s (Some due) bytes e =
    let is : bytes ≡ bytes_of s due = cc in
    omega (arith, ap length is, length_encoded s.config.addr.0 (destination_of s due).addr.0 (segment_of s due))

pub emitted-least : (s : State) (bytes : List ℕ) → Some bytes ≡ emitted_bytes s → header_len ≤ length bytes
unfolding emitted_bytes
emitted-least s bytes e = least-due s (due_of s) bytes e

-- the address and the bytes of a segment that goes out
abbrev pub segment_to : List ℕ → List ℕ → Option (List ℕ × List ℕ)
segment_to to bytes = Some (to, bytes)

-- of what goes out a party keeps the bytes
due-bytes : (s : State) (due : Option Due) → option_map (bytes_of s) due ≡ option_map (λ (segment : List ℕ × List ℕ). segment.1) (segment_as s due)
due-bytes s None = refl
due-bytes s (Some due) = refl

-- the party after an emission is what the definition says
pub emission_is : (p : PartyState) (due : Option Due) (end : State) (sent : List SentSegment) (segment : Option (List ℕ × List ℕ))
    → segment ≡ segment_as p.endpoint due → end ≡ after_due p.endpoint due
    → sent ≡ p.sent ++ option_to_list (option_map (sent_by p.endpoint) (option_map (λ s. s.1) segment))
    → record p { endpoint = end; sent = sent } ≡ party_out p due
emission_is p due end sent segment is e more =
    let bytes : option_map (λ s. s.1) segment ≡ option_map (bytes_of p.endpoint) due = ap (option_map (λ s. s.1)) is ∙ sym (due-bytes p.endpoint due) in
    ap (λ (s : State). record p { endpoint = s; sent = sent }) e ∙ ap
    (λ (list : List SentSegment). record p { endpoint = after_due p.endpoint due; sent = list })
    (more ∙ ap (λ o. p.sent ++ option_to_list (option_map (sent_by p.endpoint) o)) bytes)

counts-segment : (o : Option (List ℕ × List ℕ)) (n : ℕ) → option_map (λ _. n) o ≡ option_map (λ _. n) (option_map (λ s. s.1) o)
counts-segment None n = refl
counts-segment (Some segment) n = refl

-- and so is the outcome
pub outcome_is : (p : PartyState) (due : Option Due) (n : ℕ) (segment : Option (List ℕ × List ℕ)) → segment ≡ segment_as p.endpoint due → n ≡ length p.sent
    → outcomes.Emitted (option_map (λ _. n) segment) ≡ outcome_out p due
outcome_is p due n segment is count =
    ap (λ k. outcomes.Emitted (option_map (λ _. k) segment)) count ∙ ap (λ o. outcomes.Emitted (option_map (λ _. length p.sent) o)) is
    ∙ ap outcomes.Emitted (counts-segment (segment_as p.endpoint due) (length p.sent)) ∙ ap (λ o. outcomes.Emitted (option_map (λ _. length p.sent) o))
    (sym (due-bytes p.endpoint due))

-- RECEIVE: a room as large as what is unread serves as well as a larger one
same-read : (q : Inbox) (room : ℕ) → after_read q (min room (length q.unread)) ≡ after_read q room
unfolding after_read
same-read q room =
    let count : min (min room (length q.unread)) (length q.unread) ≡ min room (length q.unread) = omega arith in
    ap (λ (bytes : List ℕ). record q { unread = bytes; held = q.held ++ replicate (min (min room (length q.unread)) (length q.unread)) None })
    (drop_min room q.unread)
    ∙ ap (λ (n : ℕ). record q { unread = drop room q.unread; held = q.held ++ replicate n None }) count

same-received : (s : State) (room : ℕ) → with_bytes_received s (min room (length s.receiving.inbox.unread)) ≡ with_bytes_received s room
same-received s room =
    ap (λ (q : Inbox). record s {
      receiving = record s.receiving { inbox = q };
      pending = record s.pending { ack = s.pending.ack || (takes_text s.phase && ((advertised_window s s.receiving.inbox == 0) && nat_lt 0 (advertised_window s q))) };
    }) (same-read s.receiving.inbox room)

-- the end after a read of so many bytes is that after a read with this room
pub received-state : (s end : State) (room n : ℕ) → n ≡ min room (length s.receiving.inbox.unread) → end ≡ after_receive s n → end ≡ after_receive s room
unfolding after_receive
received-state s end room n size f =
    f ∙ ap (λ n. state_unless (receive_refusal s) s (with_bytes_received s n)) size ∙ ap (state_unless (receive_refusal s) s) (same-received s room)

-- the first bytes of two parts
take-parts : (n : ℕ) (front back : List ℕ) → take n front ++ take (n - length front) back ≡ take n (front ++ back)
take-parts zero front back = let none : zero - length front ≡ zero = omega arith in ap (λ k. take k back) none
take-parts (suc n) [] back = let all : suc n - length {A = ℕ} [] ≡ suc n = omega arith in ap (λ k. take k back) all
take-parts (suc n) (x ∷ front) back =
    let less : suc n - length (x ∷ front) ≡ n - length front = omega arith in
    ap (λ xs. x ∷ xs) (ap (λ k. take n front ++ take k back) less ∙ take-parts n front back)

-- the first of the unread bytes, which are lent in two parts, are what it hands over
pub lent-text : (s : State) (room n : ℕ) (front back : List ℕ) → receive_refusal s ≡ None → front ++ back ≡ s.receiving.inbox.unread
    → n ≡ min room (length s.receiving.inbox.unread)
    → take (min n (length front)) front ++ take (n - min n (length front)) back ≡ received_bytes s room
lent-text s room n front back taken lent count =
    let unread = s.receiving.inbox.unread in
    let less : n - min n (length front) ≡ n - length front = omega arith in
    ap (λ xs. xs ++ take (n - min n (length front)) back) (take_min n front) ∙ ap (λ k. take n front ++ take k back) less
    ∙ take-parts n front back ∙ ap (take n) lent ∙ ap (λ k. take k unread) count ∙ sym (ap (λ refusal. bytes_unless refusal (take (min room (length unread)) unread)) taken)

-- A FAULT of a Config is the one that is named
abbrev pub refused_for : ConfigError → Result PartyState ConfigError
refused_for fault = Err fault

abbrev world_refused_for : Side → ConfigError → Result WorldState WorldError
world_refused_for side fault = Err (worlds.Config side fault)

-- what the clauses of a party's making say of one
pub record IsFaultOf (c : Config) (fault : ConfigError) : Type 0 where
  pub capacity : (refused_for fault ≡ Err faults.BadCapacity) ↔ HasBadCapacity c
  pub mss : (refused_for fault ≡ Err faults.BadMss) ↔ HasBadMss c
  pub shift : (refused_for fault ≡ Err faults.BadShift) ↔ HasBadShift c
  pub limit : (refused_for fault ≡ Err faults.BadLimit) ↔ HasBadLimit c
  pub good : (refused_for fault ≡ Err faults.NoMemory) → IsGoodConfig c

fault_is : (c : Config) (fault : ConfigError) → IsFaultOf c fault → HasFault c fault
fault_is c faults.BadCapacity h = h.capacity.0 refl
fault_is c faults.BadMss h = h.mss.0 refl
fault_is c faults.BadShift h = h.shift.0 refl
fault_is c faults.BadLimit h = h.limit.0 refl
fault_is c faults.NoMemory h = h.good refl

in-world_named : (fault named : ConfigError) (P : Type 0) → ((refused_for fault ≡ Err named) ↔ P)
    → (world_refused_for A fault ≡ Err (worlds.Config A named)) ↔ P
in-world_named fault named P h = (λ e. h.0 (cc), λ p. let same : refused_for fault ≡ Err named = h.1 p in cc)

-- a fault of the one Config is named as its
pub fault-of_a : (a b : Config) (fault : ConfigError) → IsFaultOf a fault → NamesFault a b (Err (worlds.Config A fault))
fault-of_a a b fault h = record {
  named = fault_is a fault h;
  bad_capacity_of_a = in-world_named fault faults.BadCapacity (HasBadCapacity a) h.capacity;
  bad_mss_of_a = in-world_named fault faults.BadMss (HasBadMss a) h.mss;
  bad_shift_of_a = in-world_named fault faults.BadShift (HasBadShift a) h.shift;
  bad_limit_of_a = in-world_named fault faults.BadLimit (HasBadLimit a) h.limit;
}

-- a good Config has none
pub fault-of_b : (a b : Config) (fault : ConfigError) → IsGoodConfig a → IsFaultOf b fault → NamesFault a b (Err (worlds.Config B fault))
fault-of_b a b fault good h = record {
  named = (good, fault_is b fault h);
  bad_capacity_of_a = (λ e. absurd (cc), λ bad. absurd (bad good.0));
  bad_mss_of_a = (λ e. absurd (cc), λ bad. absurd (bad.1 good.1));
  bad_shift_of_a = (λ e. absurd (cc), λ bad. absurd (bad.2 good.2));
  bad_limit_of_a = (λ e. absurd (cc), λ bad. absurd (bad.3 good.3));
}

-- where a world is made no fault is named
pub fault-of_none : (a b : Config) (w : WorldState) → IsGoodConfig a → NamesFault a b (Ok w)
fault-of_none a b w good = record {
  named = tt;
  bad_capacity_of_a = (λ e. absurd (cc), λ bad. absurd (bad good.0));
  bad_mss_of_a = (λ e. absurd (cc), λ bad. absurd (bad.1 good.1));
  bad_shift_of_a = (λ e. absurd (cc), λ bad. absurd (bad.2 good.2));
  bad_limit_of_a = (λ e. absurd (cc), λ bad. absurd (bad.3 good.3));
}
