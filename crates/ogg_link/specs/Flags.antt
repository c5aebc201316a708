-- The flags at the head of a page (RFC 3533, 6).
use Rattle.std.specs.Prelude.{ℕ, Bool, not, ◌==◌, bit_and}

-- this flag is set
abbrev pub has_flag : ℕ → ℕ → Bool
has_flag flag flags = not (bit_and flags flag == 0)

-- the page goes on with the packet that the page before left unfinished
abbrev pub is_continued : ℕ → Bool
is_continued flags = has_flag 1 flags

-- the page is the first of its stream
abbrev pub is_first : ℕ → Bool
is_first flags = has_flag 2 flags

-- the page is the last of its stream
abbrev pub is_last : ℕ → Bool
is_last flags = has_flag 4 flags
