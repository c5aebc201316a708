-- Edit lists, version 1 (own): a head, and lines of which each says a slice or nothing; and the first bad line. Lines count
-- from 1; n is the number of a line.
use Rattle.std.specs.Prelude.{ℕ, ◌+◌, Bool, true, List, [], ◌∷◌, length, Option, Some, None, Result, Ok, Err, ◌==◌, nat_lt, codes, if◌then◌else◌}
use Rattle.std.specs.List.{onto_first}
use Rattle.std.specs.Str.{bytes_eq}
use Rattle.cut_list.specs.Items.{◌>>=◌, fields_of, item_of}
use Rattle.cut_list.specs.Slices.{Slice}
use Rattle.cut_list.specs.declared.fault.Why.{Why}
use Rattle.cut_list.specs.declared.fault.Why.TheVariants.{Head, TooMany, NoItem}

-- a line that is bad, and the first why
pub record BadLine : Type 0 where
  pub line : ℕ
  pub why : Why

-- the lines of a text: each ends with a line feed, which the last may lack
unfoldable pub lines_of : List ℕ → List (List ℕ)
lines_of [] = []
lines_of (c ∷ text) = if c == 10 then [] ∷ lines_of text else onto_first c (lines_of text)

-- an empty line and a line that begins with `#` say nothing
abbrev pub says_nothing : List ℕ → Bool
says_nothing [] = true
says_nothing (c ∷ _) = c == 35

-- what line n behind the head says: a slice, nothing, or why it is bad
unfoldable pub line_of : ℕ → List ℕ → Result (Option Slice) Why
line_of n line =
    if nat_lt 10000 n then Err TooMany
    else if says_nothing line then Ok None
    else (item_of n (fields_of line) >>= λ slice. Ok (Some slice))

-- line n, read so, before the bad line behind it
abbrev pub bad_before : ℕ → Result (Option Slice) Why → Option BadLine → Option BadLine
bad_before n (Err why) later = Some (record { line = n; why = why })
bad_before n (Ok _) later = later

-- the first bad line of those from line n on
abbrev pub bad_from : ℕ → List (List ℕ) → Option BadLine
bad_from n [] = None
bad_from n (line ∷ lines) = bad_before n (line_of n line) (bad_from (n + 1) lines)

-- a line, read so, before the slices behind it
abbrev pub slice_before : Result (Option Slice) Why → List Slice → List Slice
slice_before (Err why) later = []
slice_before (Ok None) later = later
slice_before (Ok (Some slice)) later = slice ∷ later

-- the slices of the lines from line n on that stand before a bad one
abbrev pub slices_from : ℕ → List (List ℕ) → List Slice
slices_from n [] = []
slices_from n (line ∷ lines) = slice_before (line_of n line) (slices_from (n + 1) lines)

-- whether a line is the head
abbrev pub is_head : List ℕ → Bool
is_head line = bytes_eq line (codes "oggcut 1")

-- the first bad line of a text; a text without a line lacks its head
unfoldable pub first_bad : List (List ℕ) → Option BadLine
first_bad [] = Some (record { line = 1; why = Head })
first_bad (line ∷ lines) = if is_head line then bad_from 2 lines else Some (record { line = 1; why = Head })

-- the slices of a text before its first bad line
unfoldable pub slices_in : List (List ℕ) → List Slice
slices_in [] = []
slices_in (line ∷ lines) = if is_head line then slices_from 2 lines else []

-- the first bad line, or else the slices, of which there is one; if none, it is missing on line n
abbrev pub list_or_bad : ℕ → Option BadLine → List Slice → Result (List Slice) BadLine
list_or_bad n (Some bad) slices = Err bad
list_or_bad n None [] = Err (record { line = n; why = NoItem })
list_or_bad n None (slice ∷ slices) = Ok (slice ∷ slices)

-- what a text says: its slices, or its first bad line
unfoldable pub list_of : List ℕ → Result (List Slice) BadLine
list_of text = let lines = lines_of text in list_or_bad (length lines + 1) (first_bad lines) (slices_in lines)
