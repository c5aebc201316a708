-- The bits of a frame's tokens (Theora I, 7.7.3).
use Rattle.std.specs.Prelude.{ℕ, ◌==◌, not, Bool, List, [], ◌++◌, filter, flat_map, Option, unwrap_or, IsSome, if◌then◌else◌}
use Rattle.std.specs.List.{count_by}
use Rattle.vid_base.specs.Bits.{digits}
use Rattle.thr_huff.specs.CodeTree.{CodeTree}
use Rattle.thr_huff.specs.Codes.{codes_at, code_of}
use Rattle.thr_token.specs.declared.token.Token.{Token}
use Rattle.thr_token.specs.declared.token.Tables.{Tables}
use Rattle.thr_token.specs.Tokens.{further_bits}
use Rattle.thr_token.specs.Coefficients.{TableNumbers, tree_of}

-- the two parts of a frame's tokens, each with tables of its own: those of place 0, and those of the other places
pub data Part : Type 0 where
  Dc : Part
  Ac : Part

-- whether a place belongs to a part of the tokens
abbrev pub in_part : Part → ℕ → Bool
in_part Dc place = place == 0
in_part Ac place = not (place == 0)

-- the same table for all
abbrev pub same_tables : ℕ → Tables
same_tables number = record { luma_dc = number; chroma_dc = number; luma_ac = number; chroma_ac = number }

-- how many tokens belong to it
abbrev pub tokens_in : Part → List Token → ℕ
tokens_in part tokens = count_by (λ token. in_part part token.place) tokens

-- the tables of a part
abbrev pub numbers_of : Tables → Part → TableNumbers
numbers_of tables Dc = record { luma = tables.luma_dc; chroma = tables.chroma_dc }
numbers_of tables Ac = record { luma = tables.luma_ac; chroma = tables.chroma_ac }

-- the tables of a place
abbrev pub numbers_at : Tables → ℕ → TableNumbers
numbers_at tables place = if place == 0 then numbers_of tables Dc else numbers_of tables Ac

-- the token's code in the tree of its block, where the tree has one
abbrev pub code_for : List CodeTree → TableNumbers → Token → Option (List Bool)
code_for forest numbers token = code_of (codes_at forest (tree_of numbers token.place token.luma)) token.token

-- the tree that the tables name for the token holds it
abbrev pub IsHeld : List CodeTree → Tables → Token → Type 0
IsHeld forest tables token = IsSome (code_for forest (numbers_at tables token.place) token)

-- the numbers of two tables, 4 bits each
unfoldable pub numbers_code : TableNumbers → List Bool
numbers_code numbers = digits 4 numbers.luma ++ digits 4 numbers.chroma

-- the code of a token, and its further bits
unfoldable pub token_code : List CodeTree → TableNumbers → Token → List Bool
token_code forest numbers token = unwrap_or (code_for forest numbers token) [] ++ digits (further_bits token.token) token.extra

-- the codes of the tokens of a part
unfoldable pub codes_in : List CodeTree → Tables → Part → List Token → List Bool
codes_in forest tables part tokens = flat_map (token_code forest (numbers_of tables part)) (filter (λ token. in_part part token.place) tokens)

-- the numbers of a part's tables, and its tokens
unfoldable pub part_code : List CodeTree → Tables → Part → List Token → List Bool
part_code forest tables part tokens = numbers_code (numbers_of tables part) ++ codes_in forest tables part tokens

-- the tokens of a frame
unfoldable pub tokens_code : List CodeTree → Tables → List Token → List Bool
tokens_code forest tables tokens = part_code forest tables Dc tokens ++ part_code forest tables Ac tokens
