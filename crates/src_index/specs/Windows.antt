-- A window that shows the first page of some bytes, and behind each byte of it as much as the largest page takes (private).
use Rattle.std.specs.Prelude.{◌≡◌, ◌≤◌, ◌*◌, ◌⊎◌, ℕ, List, [], ◌++◌, length}
use Rattle.ogg_page.specs.Page.{largest_page}

pub record OpensTwo (window bytes : List ℕ) : Type 0 where
  pub rest : List ℕ
  pub whole : bytes ≡ window ++ rest
  pub enough : (rest ≡ []) ⊎ (2 * largest_page ≤ length window)
