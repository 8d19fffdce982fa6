-- The window that a connection has: none, Reno's or CUBIC's, as functions of it, each of which is that of its case.
use Rattle.std.specs.Prelude.{◌-◌, false, true}
use Rattle.tcp_congestion.specs.Control.{Control, reno_control, cubic_control}
use Rattle.tcp_congestion.specs.Cubic.{CubicWindow}
use Rattle.tcp_congestion.specs.Reno.{Window}
use Rattle.tcp_congestion.specs.Sizes.{max_window}
use Rattle.tcp_congestion.specs.declared.any_window.AnyWindow.{AnyWindow}
use Rattle.tcp_congestion.specs.declared.any_window.AnyWindow.TheVariants.{Unlimited, Reno, Cubic}

-- what is read of Reno's, of CUBIC's, and where there is no window
abbrev pub of_each : {A : Type 0} → (Window → A) → (CubicWindow → A) → A → AnyWindow → A
of_each reno cubic none Unlimited = none
of_each reno cubic none (Reno w) = reno w
of_each reno cubic none (Cubic c) = cubic c

-- what becomes of Reno's and of CUBIC's; where there is no window there is none afterwards
abbrev pub each_after : (Window → Window) → (CubicWindow → CubicWindow) → AnyWindow → AnyWindow
each_after reno cubic Unlimited = Unlimited
each_after reno cubic (Reno w) = Reno (reno w)
each_after reno cubic (Cubic c) = Cubic (cubic c)

-- where there is none cwnd and ssthresh are the greatest window, which no connection fills
abbrev pub any_control : Control AnyWindow
any_control = record {
  limits = λ w. of_each reno_control.limits cubic_control.limits false w;
  smss = λ w. of_each reno_control.smss cubic_control.smss 0 w;
  cwnd = λ w. of_each reno_control.cwnd cubic_control.cwnd max_window w;
  ssthresh = λ w. of_each reno_control.ssthresh cubic_control.ssthresh max_window w;
  room = λ w flight. of_each (λ r. reno_control.room r flight) (λ c. cubic_control.room c flight) (max_window - flight) w;
  is_recovering = λ w. of_each reno_control.is_recovering cubic_control.is_recovering false w;
  is_partial = λ w snd_una. of_each (λ r. reno_control.is_partial r snd_una) (λ c. cubic_control.is_partial c snd_una) false w;
  acknowledged = λ w acked snd_una flight now rtt.
      each_after (λ r. reno_control.acknowledged r acked snd_una flight now rtt) (λ c. cubic_control.acknowledged c acked snd_una flight now rtt) w;
  delivered = λ w count flight now rtt.
      each_after (λ r. reno_control.delivered r count flight now rtt) (λ c. cubic_control.delivered c count flight now rtt) w;
  begins_recovery = λ w snd_una. of_each (λ r. reno_control.begins_recovery r snd_una) (λ c. cubic_control.begins_recovery c snd_una) false w;
  duplicated = λ w snd_una flight snd_nxt.
      each_after (λ r. reno_control.duplicated r snd_una flight snd_nxt) (λ c. cubic_control.duplicated c snd_una flight snd_nxt) w;
  reported = λ w. each_after reno_control.reported cubic_control.reported w;
  is_new_loss = λ w snd_una. of_each (λ r. reno_control.is_new_loss r snd_una) (λ c. cubic_control.is_new_loss c snd_una) false w;
  lost = λ w snd_una flight snd_nxt. each_after (λ r. reno_control.lost r snd_una flight snd_nxt) (λ c. cubic_control.lost c snd_una flight snd_nxt) w;
  found_by_time = λ w. each_after reno_control.found_by_time cubic_control.found_by_time w;
  with_pipe = λ w reported. each_after (λ r. reno_control.with_pipe r reported) (λ c. cubic_control.with_pipe c reported) w;
  lost_again = λ w. each_after reno_control.lost_again cubic_control.lost_again w;
  timed_out = λ w flight snd_nxt. each_after (λ r. reno_control.timed_out r flight snd_nxt) (λ c. cubic_control.timed_out c flight snd_nxt) w;
  may_resend = λ w. of_each reno_control.may_resend cubic_control.may_resend true w;
  resent = λ w count. each_after (λ r. reno_control.resent r count) (λ c. cubic_control.resent c count) w;
  measured = λ w trip snd_una snd_nxt.
      each_after (λ r. reno_control.measured r trip snd_una snd_nxt) (λ c. cubic_control.measured c trip snd_una snd_nxt) w;
  agreed = λ w smss. each_after (λ r. reno_control.agreed r smss) (λ c. cubic_control.agreed c smss) w;
  syn_resent = λ w. each_after reno_control.syn_resent cubic_control.syn_resent w;
  idle = λ w. each_after reno_control.idle cubic_control.idle w;
}
