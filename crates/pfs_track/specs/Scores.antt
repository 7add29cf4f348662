-- Scores of handshakes: 1000 for each, decaying over the seconds of the rate.
use Rattle.std.specs.Prelude.{ℕ, ◌+◌, ◌-◌, ◌*◌, ◌/◌, if◌then◌else◌, nat_le, min}
use Rattle.pfs_track.specs.declared.scores.Score.{Score}

-- no handshake yet
abbrev pub zero_score : Score
zero_score = record { value = 0; last = 0 }

-- what is left of a score after d seconds: nothing after the seconds of the rate, else what has not passed of them (own)
abbrev pub decayed_score : ℕ → ℕ → ℕ → ℕ
decayed_score seconds value d = if nat_le seconds d then 0 else value - value * d / seconds

-- the score after a handshake at moment t: what is left of it and 1000 more, at most 4294968000 (own)
abbrev pub score_after : ℕ → Score → ℕ → Score
score_after seconds score t = record { value = min (decayed_score seconds score.value (t - score.last) + 1000) 4294968000; last = t }
