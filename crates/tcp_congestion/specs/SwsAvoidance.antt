-- When data are sent (RFC 9293, 3.8.6.2.1): without the silly window syndrome, and with the Nagle algorithm (RFC 9293, 3.7.4; RFC 1122,
-- 4.2.3.4) where it is chosen. Sizes are bytes, and times microseconds. `queued` is D, the data that weren't sent yet, all of them
-- pushed; `usable` is U, the usable window; `flight` is SND.NXT - SND.UNA.
use Rattle.std.specs.Prelude.{◌≡◌, ℕ, ◌+◌, ◌*◌, ◌<◌, ◌≤◌, ◌==◌, ◌⊎◌, min, max, Bool, true, false, nat_le, if◌then◌else◌, List, [], ◌∷◌, Option, Some, None}
use Rattle.tcp_congestion.specs.Sizes.{max_segment, latest}

pub record Sender : Type 0 where
  -- Eff.snd.MSS
  pub mss : ℕ
  pub is_nagle : Bool
  -- the override timeout
  pub timeout : ℕ
  -- Max(SND.WND)
  pub max_wnd : ℕ
  -- since when data wait that could be sent
  pub since : Option ℕ

abbrev pub new_sender : ℕ → Bool → ℕ → Sender
new_sender mss is_nagle timeout = record { mss = mss; is_nagle = is_nagle; timeout = timeout; max_wnd = 0; since = None }

-- the peer's window is this
abbrev pub after_window : Sender → ℕ → Sender
after_window s snd_wnd = record s { max_wnd = max s.max_wnd snd_wnd }

-- [SND.NXT = SND.UNA and], which the Nagle algorithm adds
abbrev pub is_alone : Sender → ℕ → Bool
is_alone s flight = if s.is_nagle then flight == 0 else true

-- (1) a maximum-sized segment can be sent: min(D,U) >= Eff.snd.MSS
abbrev pub is_full : Sender → ℕ → ℕ → Bool
is_full s queued usable = nat_le s.mss (min queued usable)

-- (2) the data are pushed, and all queued data can be sent now: D <= U
abbrev pub is_all : ℕ → ℕ → Bool
is_all queued usable = nat_le queued usable

-- (3) a fraction of the maximum window can be sent: min(D,U) >= Fs * Max(SND.WND), where Fs is 1/2
abbrev pub is_fraction : Sender → ℕ → ℕ → Bool
is_fraction s queued usable = nat_le s.max_wnd (2 * min queued usable)

-- (4) the override timeout occurs
abbrev pub is_overridden : Option ℕ → ℕ → ℕ → Bool
is_overridden None timeout now = false
is_overridden (Some since) timeout now = nat_le (since + timeout) now

abbrev pub is_worth : Sender → ℕ → ℕ → ℕ → Bool
is_worth s queued usable flight =
    if is_alone s flight then (if is_all queued usable then true else is_fraction s queued usable) else false

abbrev pub is_sent : Sender → ℕ → ℕ → ℕ → ℕ → Bool
is_sent s queued usable flight now =
    if is_full s queued usable then true else (if is_worth s queued usable flight then true else is_overridden s.since s.timeout now)

-- how long the next segment is, 0 where there is none or it waits
abbrev pub length_of : Sender → ℕ → ℕ → ℕ → ℕ → ℕ
length_of s queued usable flight now = if is_sent s queued usable flight now then min s.mss (min queued usable) else 0

abbrev pub waiting_since : Option ℕ → ℕ → Option ℕ
waiting_since None now = Some now
waiting_since (Some since) now = Some since

-- data wait from when they could have been sent first
abbrev pub since_after : Sender → ℕ → ℕ → ℕ → ℕ → Option ℕ
since_after s queued usable flight now =
    if is_sent s queued usable flight now then None else (if min queued usable == 0 then None else waiting_since s.since now)

abbrev pub after_asked : Sender → ℕ → ℕ → ℕ → ℕ → Sender
after_asked s queued usable flight now = record s { since = since_after s queued usable flight now }

-- when the override timeout occurs
abbrev pub deadline_by : Option ℕ → ℕ → Option ℕ
deadline_by None timeout = None
deadline_by (Some since) timeout = Some (min latest (since + timeout))

-- ---- what follows

-- NO SILLY SEGMENT: one that isn't full has all that is queued, or half of the greatest window, and where the Nagle algorithm is chosen
-- nothing is in flight; or the override timeout has passed
pub record IsAlone (s : Sender) (flight : ℕ) : Type 0 where
  pub unsent : s.is_nagle ≡ true → flight ≡ 0

abbrev pub NoSillySegment : Type 0
NoSillySegment =
    (s : Sender) (queued usable flight now : ℕ) → length_of s queued usable flight now < s.mss → 0 < length_of s queued usable flight now
    → (IsAlone s flight × ((length_of s queued usable flight now ≡ queued) ⊎ (s.max_wnd ≤ 2 * length_of s queued usable flight now)))
    ⊎ (is_overridden s.since s.timeout now ≡ true)

-- the sender is asked for the next segment
pub record Ask : Type 0 where
  pub queued : ℕ
  pub usable : ℕ
  pub flight : ℕ
  pub now : ℕ

abbrev pub after_ask : Sender → Ask → Sender
after_ask s a = after_asked s a.queued a.usable a.flight a.now

-- the newest comes first
abbrev pub after_asks : Sender → List Ask → Sender
after_asks s [] = s
after_asks s (a ∷ earlier) = after_ask (after_asks s earlier) a

-- it answers that data wait which the window has room for
abbrev pub Waits : Sender → Ask → Type 0
Waits s a = (0 < min a.queued a.usable) × (length_of s a.queued a.usable a.flight a.now ≡ 0)

abbrev pub AllWait : Sender → List Ask → Type 0
AllWait s [] = Unit {0}
AllWait s (a ∷ earlier) = Waits (after_asks s earlier) a × AllWait s earlier

-- NOTHING WAITS LONGER THAN THE OVERRIDE TIMEOUT: data that wait each time that the sender is asked, from a first time on, wait for less
abbrev pub NothingWaitsLonger : Type 0
NothingWaitsLonger =
    (s : Sender) (first last : Ask) (between : List Ask) → 0 < s.mss → s.since ≡ None → Waits s first → AllWait (after_ask s first) between
    → Waits (after_asks (after_ask s first) between) last → last.now < first.now + s.timeout

-- ---- what always holds
pub record IsSender (s : Sender) : Type 0 where
  pub positive : 0 < s.mss
  pub fits : s.mss ≤ max_segment
