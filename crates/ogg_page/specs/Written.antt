-- The bytes of a page with given fields (RFC 3533, 6).
use Rattle.std.specs.Prelude.{ℕ, List, [], ◌∷◌, ◌++◌, length}
use Rattle.byteorder.specs.Endian.{little_bytes}
use Rattle.ogg_page.specs.declared.page.PageHead.{PageHead}
use Rattle.ogg_page.specs.Division.{checksum_of}
use Rattle.ogg_page.specs.Page.{Page, capture}

-- the bytes before the checksum: the version is 0
abbrev pub head_of : ℕ → ℕ → ℕ → ℕ → List ℕ
head_of flags granule serial number = capture ++ (0 ∷ flags ∷ (little_bytes 8 granule ++ little_bytes 4 serial ++ little_bytes 4 number))

-- the bytes behind the checksum
abbrev pub tail_of : List ℕ → List ℕ → List ℕ
tail_of lacing body = length lacing ∷ (lacing ++ body)

-- the two with the checksum between them
abbrev pub with_checksum : List ℕ → List ℕ → List ℕ
with_checksum head tail = head ++ little_bytes 4 (checksum_of (head ++ (0 ∷ 0 ∷ 0 ∷ 0 ∷ tail))) ++ tail

-- the bytes of a page with these fields: flags, granule position, serial number, sequence number, lacing bytes and body
unfoldable pub page_of : ℕ → ℕ → ℕ → ℕ → List ℕ → List ℕ → List ℕ
page_of flags granule serial number lacing body = with_checksum (head_of flags granule serial number) (tail_of lacing body)

-- the page with this head
abbrev pub page_from : PageHead → List ℕ → List ℕ → Page
page_from head lacing body = record { flags = head.flags; granule = head.granule; serial = head.serial; number = head.number; lacing = lacing; body = body }

-- the bytes of a page
abbrev pub written_page : Page → List ℕ
written_page page = page_of page.flags page.granule page.serial page.number page.lacing page.body

-- the bytes of pages one behind the other
unfoldable pub written_pages : List Page → List ℕ
written_pages [] = []
written_pages (page ∷ pages) = written_page page ++ written_pages pages
