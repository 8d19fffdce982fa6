-- Any congestion window, as functions of its state W.
use Rattle.std.specs.Prelude.{ℕ, Bool, true}
use Rattle.tcp_congestion.specs.Reno.{Window}
use Rattle.tcp_congestion.specs.Reno as reno
use Rattle.tcp_congestion.specs.Cubic.{CubicWindow}
use Rattle.tcp_congestion.specs.Cubic as cubic

pub record Control (W : Type 0) : Type 0 where
  -- whether there is a window at all: where there is none nothing is told to it, and nothing waits for it
  pub limits : W → Bool
  pub smss : W → ℕ
  pub cwnd : W → ℕ
  pub ssthresh : W → ℕ
  -- what may be sent beside what is in flight
  pub room : W → ℕ → ℕ
  -- a loss isn't repaired yet
  pub is_recovering : W → Bool
  -- something was acknowledged: whether the first segment goes out again, and the state after it
  pub is_partial : W → ℕ → Bool
  pub acknowledged : W → ℕ → ℕ → ℕ → ℕ → ℕ → W
  -- blocks report so many bytes more, and SND.UNA stays
  pub delivered : W → ℕ → ℕ → ℕ → ℕ → W
  -- a duplicate acknowledgement, by number or with a new block
  pub begins_recovery : W → ℕ → Bool
  pub duplicated : W → ℕ → ℕ → ℕ → W
  pub reported : W → W
  -- blocks or a probe found a loss: whether it is the first of a window, and the state after it
  pub is_new_loss : W → ℕ → Bool
  pub lost : W → ℕ → ℕ → ℕ → W
  -- losses are found by time in the recovery that goes on; blocks report so many bytes of what is in flight; and what was sent again was
  -- lost again
  pub found_by_time : W → W
  pub with_pipe : W → ℕ → W
  pub lost_again : W → W
  pub timed_out : W → ℕ → ℕ → W
  -- what is sent again
  pub may_resend : W → Bool
  pub resent : W → ℕ → W
  -- behind an acknowledgement a round trip was measured
  pub measured : W → ℕ → ℕ → ℕ → W
  -- both SYNs agreed on SMSS, a SYN was lost, or nothing was sent for long
  pub agreed : W → ℕ → W
  pub syn_resent : W → W
  pub idle : W → W

abbrev pub reno_control : Control Window
reno_control = record {
  limits = λ w. true;
  smss = λ w. w.smss;
  cwnd = λ w. w.cwnd;
  ssthresh = λ w. w.ssthresh;
  room = λ w flight. reno.room_of w flight;
  is_recovering = λ w. w.is_recovering;
  is_partial = λ w snd_una. reno.is_partial w snd_una;
  acknowledged = λ w acked snd_una flight now rtt. reno.after_acknowledgement w acked snd_una flight;
  delivered = λ w count flight now rtt. reno.after_delivery w count flight;
  begins_recovery = λ w snd_una. reno.begins_recovery w snd_una;
  duplicated = λ w snd_una flight snd_nxt. reno.after_duplicate w snd_una flight snd_nxt;
  reported = λ w. reno.after_report w;
  is_new_loss = λ w snd_una. reno.is_new_loss w snd_una;
  lost = λ w snd_una flight snd_nxt. reno.after_loss w snd_una flight snd_nxt;
  found_by_time = λ w. reno.after_finding w;
  with_pipe = λ w reported. reno.with_pipe w reported;
  lost_again = λ w. reno.after_second_loss w;
  timed_out = λ w flight snd_nxt. reno.after_timeout w flight snd_nxt;
  may_resend = λ w. reno.may_resend w;
  resent = λ w count. reno.after_resent w count;
  measured = λ w trip snd_una snd_nxt. reno.after_measurement w trip snd_una snd_nxt;
  agreed = λ w smss. reno.after_agreement w smss;
  syn_resent = λ w. reno.after_syn_resent w;
  idle = λ w. reno.after_idle w;
}

abbrev pub cubic_control : Control CubicWindow
cubic_control = record {
  limits = λ c. true;
  smss = λ c. c.window.smss;
  cwnd = λ c. c.window.cwnd;
  ssthresh = λ c. c.window.ssthresh;
  room = λ c flight. reno.room_of c.window flight;
  is_recovering = λ c. c.window.is_recovering;
  is_partial = λ c snd_una. reno.is_partial c.window snd_una;
  acknowledged = λ c acked snd_una flight now rtt. cubic.after_acknowledgement c acked snd_una flight now rtt;
  delivered = λ c count flight now rtt. cubic.after_delivery c count flight now rtt;
  begins_recovery = λ c snd_una. reno.begins_recovery c.window snd_una;
  duplicated = λ c snd_una flight snd_nxt. cubic.after_duplicate c snd_una flight snd_nxt;
  reported = λ c. cubic.after_report_of c;
  is_new_loss = λ c snd_una. reno.is_new_loss c.window snd_una;
  lost = λ c snd_una flight snd_nxt. cubic.after_loss c snd_una flight snd_nxt;
  found_by_time = λ c. record c { window = reno.after_finding c.window };
  with_pipe = λ c reported. record c { window = reno.with_pipe c.window reported };
  lost_again = λ c. cubic.after_second_loss c;
  timed_out = λ c flight snd_nxt. cubic.after_timeout c flight snd_nxt;
  may_resend = λ c. reno.may_resend c.window;
  resent = λ c count. record c { window = reno.after_resent c.window count };
  measured = λ c trip snd_una snd_nxt. record c { window = reno.after_measurement c.window trip snd_una snd_nxt };
  agreed = λ c smss. record c { window = reno.after_agreement c.window smss };
  syn_resent = λ c. record c { window = reno.after_syn_resent c.window };
  idle = λ c. cubic.after_idle_time c;
}
