-- Watching marks go by, the oldest first: what is known after each, so that the longest quiet is found in one visit.
use Rattle.std.specs.Prelude.{ℕ, ◌+◌, max, Bool, true, false, List, [], ◌∷◌, Option, None, Some, option_map, unwrap_or}
use Rattle.quiet.specs.declared.longest.Watch.{Watch}

-- the longest quiet once a strike ends the quiet frames since the last one; the first strike ends none
unfoldable pub ended : Option ℕ → ℕ → ℕ
ended (Some since) longest = max longest since
ended None longest = longest

-- the watch after so many quiet frames more
abbrev pub later : ℕ → Watch → Watch
later n w = record { since = option_map (λ since. since + n) w.since; longest = w.longest }

-- the watch after one mark more
unfoldable pub step : Watch → Bool → Watch
step w true = record { since = Some 0; longest = ended w.since w.longest }
step w false = later 1 w

-- the watch after some marks more
unfoldable pub watched : Watch → List Bool → Watch
watched w [] = w
watched w (b ∷ bs) = watched (step w b) bs

-- nothing has gone by yet
abbrev pub start : Watch
start = record { since = None; longest = 0 }

-- the quiet frames that have passed since the last strike, none before the first
abbrev pub passed : Watch → ℕ
passed w = unwrap_or w.since 0
