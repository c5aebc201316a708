-- Rows of a forest: the trees of one number in the five groups of places of coefficients (Theora I, 7.7.3).
use Rattle.std.specs.Prelude.{ℕ, ◌+◌, ◌*◌, ◌<◌, Bool, List, Option, IsSome, is_some}
use Rattle.std.specs.List.{list_all, find, range_with_len}
use Rattle.thr_huff.specs.CodeTree.{CodeTree}
use Rattle.thr_huff.specs.Codes.{Codes, codes_at, code_of}

-- a code leads to each of the 32 tokens
abbrev pub HasAllTokens : Codes → Type 0
HasAllTokens codes = (token : ℕ) → token < 32 → IsSome (code_of codes token)

-- the trees of this number have all tokens in each group
abbrev pub IsFullRow : List CodeTree → ℕ → Type 0
IsFullRow forest number = (group : ℕ) → group < 5 → HasAllTokens (codes_at forest (16 * group + number))

-- whether a code leads to each of the 32 tokens
unfoldable pub has_all_tokens : Codes → Bool
has_all_tokens codes = list_all (λ token. is_some (code_of codes token)) (range_with_len 0 32)

-- whether the trees of this number have all tokens in each group
unfoldable pub is_full_row : List CodeTree → ℕ → Bool
is_full_row forest number = list_all (λ group. has_all_tokens (codes_at forest (16 * group + number))) (range_with_len 0 5)

-- the least number whose trees have all tokens in each group, if there is one
unfoldable pub full_row_of : List CodeTree → Option ℕ
full_row_of forest = find (λ number. is_full_row forest number) (range_with_len 0 16)
