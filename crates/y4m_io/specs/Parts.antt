-- (private) A line as parts, one behind the other (own).
use Rattle.std.specs.Prelude.{ℕ, ◌+◌, List, [], ◌∷◌, ◌++◌, length, fold, sum_by, decimal}
use Rattle.y4m_io.specs.declared.line.Part.{Part}
use Rattle.y4m_io.specs.declared.line.Part.TheVariants.{Text, Number}

-- the characters of a part
abbrev pub characters : Part → List ℕ
characters (Text text) = text.now
characters (Number n) = decimal n

-- the characters of a line, and parts behind them
abbrev pub with_parts : List ℕ → List Part → List ℕ
with_parts line parts = fold (λ line part. line ++ characters part) line parts

-- what ends each line
abbrev pub line_feed : List ℕ
line_feed = 10 ∷ []

-- the characters of a line, and its line feed
abbrev pub line_of : List Part → List ℕ
line_of parts = with_parts [] parts ++ line_feed

-- the characters that a part has at most: those of its text, or the 10 of a number below 2 ^ 32
abbrev pub room_of : Part → ℕ
room_of (Text text) = length text.now
room_of (Number n) = 10

-- the characters that a line has at most, and its line feed
abbrev pub room_for : List Part → ℕ
room_for parts = sum_by room_of parts + 1
