-- False pages: a page without a fault that stands where no page of the file begins (own).
use Rattle.std.specs.Prelude.{◌≡◌, ℕ, ◌+◌, List, [], ◌∷◌, drop, Ok, IsOk}
use Rattle.ogg_page.specs.Page.{Page, page_at_front, bytes_of_page}

-- behind these pages, the first of which begins at a byte, the next byte is this
unfoldable pub Reaches : List ℕ → ℕ → List Page → ℕ → Type 0
Reaches bytes at [] next = next ≡ at
Reaches bytes at (page ∷ pages) next = (page_at_front (drop at bytes) ≡ Ok page) × Reaches bytes (at + bytes_of_page page) pages next

-- a page of the file begins at this byte, or the file ends there: the pages before it fill the bytes before it
pub record IsStart (bytes : List ℕ) (at : ℕ) : Type 0 where
  pub pages : List Page
  pub before : Reaches bytes 0 pages at

-- a page without a fault stands at this byte, with its right checksum
abbrev pub IsPage : List ℕ → ℕ → Type 0
IsPage bytes at = IsOk (page_at_front (drop at bytes))

-- no page stands at a byte where none of the file begins
unfoldable pub IsSeekable : List ℕ → Type 0
IsSeekable bytes = (at : ℕ) → IsPage bytes at → IsStart bytes at
