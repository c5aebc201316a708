-- A page of an Ogg file, and the pages that fill a file (RFC 3533, 6). Numbers are written with their lowest byte first.
use Rattle.std.specs.Prelude.{◌≡◌, ◌⊎◌, ℕ, ◌+◌, ◌≤◌, ◌<◌, Bool, not, ◌||◌, List, [], ◌∷◌, ◌++◌, length, take, drop, sum, slice_index, Result, Ok, Err, ◌==◌, nat_lt, if◌then◌else◌}
use Rattle.std.specs.Str.{bytes_eq}
use Rattle.byteorder.specs.Endian.{little_number}
use Rattle.ogg_page.specs.declared.fault.PageFault.{PageFault}
use Rattle.ogg_page.specs.declared.fault.PageFault.TheVariants.{NotAPage, PageVersion, Checksum, Truncated}
use Rattle.ogg_page.specs.declared.page.PageRef.{PageRef}
use Rattle.ogg_page.specs.Division.{checksum_of}

-- the fields of a page
pub record Page : Type 0 where
  pub flags : ℕ
  pub granule : ℕ
  pub serial : ℕ
  pub number : ℕ
  pub lacing : List ℕ
  pub body : List ℕ

-- a page that lies in memory, by its fields
abbrev pub view : PageRef → Page
view p = record { flags = p.flags; granule = p.granule; serial = p.serial; number = p.number; lacing = p.lacing.now; body = p.body.now }

-- `OggS`, with which a page begins
abbrev pub capture : List ℕ
capture = 79 ∷ 103 ∷ 103 ∷ 83 ∷ []

-- the number in n bytes from a place on
abbrev pub number_at : ℕ → ℕ → List ℕ → ℕ
number_at n at bytes = little_number n (take n (drop at bytes))

-- the lacing bytes, of which byte 26 says how many they are
abbrev pub lacing_of : List ℕ → List ℕ
lacing_of bytes = take (slice_index bytes 26) (drop 27 bytes)

-- the body, as long as the lacing bytes say
abbrev pub body_of : List ℕ → List ℕ
body_of bytes = take (sum (lacing_of bytes)) (drop (27 + slice_index bytes 26) bytes)

-- how many bytes the page says that it has
abbrev pub size_of : List ℕ → ℕ
size_of bytes = 27 + slice_index bytes 26 + sum (lacing_of bytes)

-- the bytes end before the page does
abbrev pub is_short : List ℕ → Bool
is_short bytes = nat_lt (length bytes) 27 || nat_lt (length bytes) (size_of bytes)

-- the fields where they stand in the bytes
abbrev pub fields_of : List ℕ → Page
fields_of bytes = record {
  flags = slice_index bytes 5;
  granule = number_at 8 6 bytes;
  serial = number_at 4 14 bytes;
  number = number_at 4 18 bytes;
  lacing = lacing_of bytes;
  body = body_of bytes;
}

-- the page at the front of these bytes, or its first fault
unfoldable pub page_at_front : List ℕ → Result Page PageFault
page_at_front bytes =
    if not (bytes_eq (take 4 bytes) (take (length bytes) capture)) then Err NotAPage
    else if nat_lt 0 (slice_index bytes 4) then Err PageVersion
    else if is_short bytes then Err Truncated
    else if number_at 4 22 bytes == checksum_of (take (size_of bytes) bytes) then Ok (fields_of bytes)
    else Err Checksum

-- an answer is what the definition reads
abbrev pub GivesPage : Result PageRef PageFault → Result Page PageFault → Type 0
GivesPage (Ok page) read = read ≡ Ok (view page)
GivesPage (Err fault) read = read ≡ Err fault

-- at most 255 lacing bytes, whose sum is the length of the body
pub record HasShape (lacing body : List ℕ) : Type 0 where
  pub count : length lacing ≤ 255
  pub sum : sum lacing ≡ length body

-- how many bytes a page takes
abbrev pub bytes_of_page : Page → ℕ
bytes_of_page page = 27 + length page.lacing + length page.body

-- the most bytes that a page takes
abbrev pub largest_page : ℕ
largest_page = 65307

-- the bytes begin with a window that shows their first page whole: all of them, or as many as the largest page takes
pub record Opens (window bytes : List ℕ) : Type 0 where
  pub rest : List ℕ
  pub whole : bytes ≡ window ++ rest
  pub enough : (rest ≡ []) ⊎ (largest_page ≤ length window)

-- these pages, each where the one before ended, fill the bytes
unfoldable pub ArePages : List ℕ → List Page → Type 0
ArePages bytes [] = bytes ≡ []
ArePages bytes (page ∷ pages) = (page_at_front bytes ≡ Ok page) × ArePages (drop (bytes_of_page page) bytes) pages

-- behind these pages the bytes go on with a fault
unfoldable pub FirstFault : List ℕ → List Page → PageFault → Type 0
FirstFault bytes [] fault = (0 < length bytes) × (page_at_front bytes ≡ Err fault)
FirstFault bytes (page ∷ pages) fault = (page_at_front bytes ≡ Ok page) × FirstFault (drop (bytes_of_page page) bytes) pages fault
