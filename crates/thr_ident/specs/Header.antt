-- Fields of an identification header where they stand in its packet (Theora I, 6.1 and 6.2).
-- The names are the standard's. Places and widths count bits.
use Rattle.std.specs.Prelude.{ℕ, ◌+◌, ◌*◌, ◌^◌, ◌<◌, List, [], ◌∷◌, take, drop, codes}
use Rattle.std.specs.Int.{bytes_high_first}
use Rattle.std.specs.List.{concat}
use Rattle.vid_base.specs.Bits.{bits_of, number}

-- the first bytes of an identification header: its type, and the codec's name
abbrev pub ident_name : List ℕ
ident_name = 128 ∷ codes "theora"

-- what the fields of an identification header say
pub record Header : Type 0 where
  pub vmaj : ℕ
  pub vmin : ℕ
  pub vrev : ℕ
  pub fmbw : ℕ
  pub fmbh : ℕ
  pub picw : ℕ
  pub pich : ℕ
  pub picx : ℕ
  pub picy : ℕ
  pub frn : ℕ
  pub frd : ℕ
  pub parn : ℕ
  pub pard : ℕ
  pub cs : ℕ
  pub nombr : ℕ
  pub qual : ℕ
  pub shift : ℕ
  pub pf : ℕ
  pub reserved : ℕ

-- how many bytes it has
abbrev pub ident_length : ℕ
ident_length = 42

-- the number in the field of so many bits that stands behind `place` bits
unfoldable pub field_at : ℕ → ℕ → List ℕ → ℕ
field_at place width bytes = number (take width (drop place (bits_of bytes)))

-- what the fields of a packet say, each at its place
unfoldable pub header_in : List ℕ → Header
header_in bytes = record {
  vmaj = field_at 56 8 bytes;
  vmin = field_at 64 8 bytes;
  vrev = field_at 72 8 bytes;
  fmbw = field_at 80 16 bytes;
  fmbh = field_at 96 16 bytes;
  picw = field_at 112 24 bytes;
  pich = field_at 136 24 bytes;
  picx = field_at 160 8 bytes;
  picy = field_at 168 8 bytes;
  frn = field_at 176 32 bytes;
  frd = field_at 208 32 bytes;
  parn = field_at 240 24 bytes;
  pard = field_at 264 24 bytes;
  cs = field_at 288 8 bytes;
  nombr = field_at 296 24 bytes;
  qual = field_at 320 6 bytes;
  shift = field_at 326 5 bytes;
  pf = field_at 331 2 bytes;
  reserved = field_at 333 3 bytes;
}

-- each field fits its bits
pub record Fits (h : Header) : Type 0 where
  pub vmaj : h.vmaj < 2 ^ 8
  pub vmin : h.vmin < 2 ^ 8
  pub vrev : h.vrev < 2 ^ 8
  pub fmbw : h.fmbw < 2 ^ 16
  pub fmbh : h.fmbh < 2 ^ 16
  pub picw : h.picw < 2 ^ 24
  pub pich : h.pich < 2 ^ 24
  pub picx : h.picx < 2 ^ 8
  pub picy : h.picy < 2 ^ 8
  pub frn : h.frn < 2 ^ 32
  pub frd : h.frd < 2 ^ 32
  pub parn : h.parn < 2 ^ 24
  pub pard : h.pard < 2 ^ 24
  pub cs : h.cs < 2 ^ 8
  pub nombr : h.nombr < 2 ^ 24
  pub qual : h.qual < 2 ^ 6
  pub shift : h.shift < 2 ^ 5
  pub pf : h.pf < 2 ^ 2
  pub reserved : h.reserved < 2 ^ 3

-- the bytes of a header: the fields in order, the highest byte of each first, and the last four in two bytes
unfoldable pub header_bytes : Header → List ℕ
header_bytes h = concat (
    ident_name
    ∷ (h.vmaj ∷ h.vmin ∷ h.vrev ∷ [])
    ∷ bytes_high_first 2 h.fmbw
    ∷ bytes_high_first 2 h.fmbh
    ∷ bytes_high_first 3 h.picw
    ∷ bytes_high_first 3 h.pich
    ∷ (h.picx ∷ h.picy ∷ [])
    ∷ bytes_high_first 4 h.frn
    ∷ bytes_high_first 4 h.frd
    ∷ bytes_high_first 3 h.parn
    ∷ bytes_high_first 3 h.pard
    ∷ (h.cs ∷ [])
    ∷ bytes_high_first 3 h.nombr
    ∷ bytes_high_first 2 (h.qual * 2 ^ 10 + h.shift * 2 ^ 5 + h.pf * 2 ^ 3 + h.reserved)
    ∷ [])
