-- The rows of tables by which all tokens can be written (own): row n has tree n of each of the five groups (Theora I, 6.4.4 and 7.7.3).
use Rattle.std.specs.Prelude.{ℕ, List}
use Rattle.std.specs.List.{Contains, filter, range_with_len}
use Rattle.thr_huff.specs.CodeTree.{CodeTree}
use Rattle.thr_huff.specs.Rows.{is_full_row}
use Rattle.thr_token.specs.declared.token.Tables.{Tables}

-- the numbers of the rows whose trees hold all 32 tokens, in rising order
unfoldable pub full_rows : List CodeTree → List ℕ
full_rows forest = filter (λ number. is_full_row forest number) (range_with_len 0 16)

-- each of the four tables is one of these rows
pub record AreAmong (rows : List ℕ) (tables : Tables) : Type 0 where
  pub luma_dc : Contains rows tables.luma_dc
  pub chroma_dc : Contains rows tables.chroma_dc
  pub luma_ac : Contains rows tables.luma_ac
  pub chroma_ac : Contains rows tables.chroma_ac
