-- Where a text begins.
use Rattle.std.proofs.Common.{ℕ, ◌+◌, ◌^◌, ◌<◌, ◌≤◌, ⊎_elim, arith}
use Rattle.std.proofs.lemmas.Bool.{cases_lt}
use Rattle.tcp_wire.specs.Position.{number, distance, position_of}
use Rattle.tcp_wire.proofs.Lemmas.{position_of_ahead, position_of_behind}

-- a number means a position less than 2^32 ahead of the one that is expected
pub position_most : (iss snd_una w : ℕ) → iss < 2 ^ 32 → w < 2 ^ 32 → position_of iss snd_una w < snd_una + 2 ^ 32
position_most iss snd_una w small fits =
    let less : distance (number iss snd_una) w < 2 ^ 32 = omega arith in
    ⊎_elim
    (λ (close : distance (number iss snd_una) w < 2 ^ 31). omega (arith, position_of_ahead iss snd_una w small fits close))
    (λ (far : 2 ^ 31 ≤ distance (number iss snd_una) w). omega (arith, position_of_behind iss snd_una w small fits far))
    (cases_lt (distance (number iss snd_una) w) (2 ^ 31))
