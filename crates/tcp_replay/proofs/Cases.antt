-- THE STAGES OF AN ARRIVAL by their cases, opened once: P holds of the state after a stage where it holds in each case.
use Rattle.tcp_replay.proofs.Words.{[], after_block, after_blocks, after_orderly_end, after_own_fin, after_window_and_blocks, after_window_update}
use Rattle.tcp_replay.proofs.Words.{blocks_used, cond_both, Content, false, if◌then◌else◌, is_current, is_fin_acked, is_last_ack, is_newer, List}
use Rattle.tcp_replay.proofs.Words.{marks_text, phase_after_own_fin, position_of, Sending, State, true, window_from, with_marks, with_window}
use Rattle.tcp_replay.proofs.Words.{with_window_and_blocks, ℕ, ◌∷◌, ◌≡◌}

-- the own FIN is acknowledged in LAST-ACK, in another phase, or not at all
pub own_fin-cases : (x : State) (P : State → Type 0) → (is_fin_acked x.sending ≡ true → is_last_ack x.phase ≡ true → P (after_orderly_end x))
    → (is_fin_acked x.sending ≡ true → is_last_ack x.phase ≡ false → P (record x { phase = phase_after_own_fin x.phase }))
    → (is_fin_acked x.sending ≡ false → P x) → P (after_own_fin x)
unfolding after_own_fin
own_fin-cases x P last passes stays =
    let passed : State = record x { phase = phase_after_own_fin x.phase } in
    cond_both (is_fin_acked x.sending) (if is_last_ack x.phase then after_orderly_end x else passed) x P
    (λ e. cond_both (is_last_ack x.phase) (after_orderly_end x) passed P (last e) (passes e)) stays

-- the blocks of a segment, each in turn
blocks-cases : (P : Sending → Type 0) → ((d : Sending) (left right : ℕ) → marks_text d left right ≡ true → P d → P (with_marks d left right)) → (iss : ℕ)
    (d : Sending) (blocks : List (ℕ × ℕ)) → P d → P (after_blocks iss d blocks)
unfolding after_block
blocks-cases P marked iss d [] h = h
blocks-cases P marked iss d (block ∷ blocks) h =
    let left = position_of iss d.snd_una block.0 in
    let right = position_of iss d.snd_una block.1 in
    blocks-cases P marked iss (after_block d left right) blocks
    (cond_both (marks_text d left right) (with_marks d left right) d P (λ e. marked d left right e h) (λ _. h))

-- window and blocks of a segment that is current: a window is taken where it is newer, and blocks of what is in flight are marked
pub window_and_blocks-cases : (P : Sending → Type 0) (s : State) (v : Content) → ((d : Sending) → P d → P (with_window d v.seq v.ack (window_from s.link v.window)))
    → ((d : Sending) (left right : ℕ) → marks_text d left right ≡ true → P d → P (with_marks d left right)) → P s.sending → P (after_window_and_blocks s v).sending
unfolding after_window_and_blocks after_window_update
window_and_blocks-cases P s v taken marked h =
    let d = s.sending in
    let told = window_from s.link v.window in
    cond_both (is_current s v) (with_window_and_blocks s v) d P
    (λ _. blocks-cases P marked s.config.isn.0 (after_window_update d v.seq v.ack told) (blocks_used s v)
    (cond_both (is_newer d v.seq v.ack) (with_window d v.seq v.ack told) d P (λ _. taken d h) (λ _. h)))
    (λ _. h)
