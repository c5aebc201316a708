-- Tables that name the token for each number of the next eight bits (own).
use Rattle.std.specs.Prelude.{◌≡◌, ℕ, ◌<◌, ◌+◌, List, Bool, length, Option, None, option_map, slice_index_or}
use Rattle.vid_base.specs.Bits.{digits}
use Rattle.thr_huff.specs.declared.book.Entry.{Entry}
use Rattle.thr_huff.specs.Codes.{Codes, front_code}

-- the token whose code is a prefix of the bits, and how long that code is
unfoldable pub entry_of : Codes → List Bool → Option Entry
entry_of codes bits = option_map (λ code. record { token = code.1; len = length code.0 }) (front_code codes bits)

-- an entry of one tree of a branch, seen from the branch
abbrev pub deeper : Entry → Entry
deeper entry = record { token = entry.token; len = entry.len + 1 }

-- for each number of eight bits what its digits begin with
pub record IsTable (codes : Codes) (table : List (Option Entry)) : Type 0 where
  pub size : length table ≡ 256
  pub entries : (window : ℕ) → window < 256 → slice_index_or table window None ≡ entry_of codes (digits 8 window)
