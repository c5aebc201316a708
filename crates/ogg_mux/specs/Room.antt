-- Where pages are written while a packet is added, and how much room they take (own).
use Rattle.std.specs.Prelude.{◌≡◌, ℕ, ◌+◌, ◌*◌, ◌<◌, ◌≤◌, Bool, true, ◌||◌, length, nat_lt}
use Rattle.ogg_mux.specs.OutputPages.{Held}

-- a page is written before so many segments are added: the held one is closed, or they do not fit it
abbrev pub spills : Held → ℕ → Bool
spills held segments = held.closed || nat_lt 255 (length held.lacing + segments)

-- at most so many bytes are written then: the held page, and a head of 27 bytes and one lacing value for each segment
abbrev pub most_written : Held → ℕ → ℕ → ℕ
most_written held segments size = 27 + length held.lacing + length held.body + 28 * segments + size

-- a list of such length and capacity has room for what is written while so many segments are added
abbrev pub IsRoomy : ℕ → ℕ → Held → ℕ → ℕ → Type 0
IsRoomy len capacity held segments size = 0 < segments → spills held segments ≡ true → len + most_written held segments size ≤ capacity
