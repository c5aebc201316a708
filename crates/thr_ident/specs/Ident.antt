-- The identification header: which packets are one, and what it says (Theora I, 6.2).
use Rattle.std.specs.Prelude.{ℕ, ◌+◌, ◌*◌, List, [], ◌∷◌, Result, Bool, not, ◌&&◌, ◌==◌, nat_eq, nat_lt, nat_le, length}
use Rattle.std.specs.List.{starts_with}
use Rattle.vid_base.specs.declared.fault.PacketFault.{PacketFault}
use Rattle.vid_base.specs.declared.fault.PacketFault.TheVariants.{Ended, NotIdent, Version, BadSize, BadRate, PixelFormat, Reserved, TooLarge}
use Rattle.thr_ident.specs.declared.ident.Ident.{Ident}
use Rattle.thr_ident.specs.Header.{Header, ident_name, ident_length, header_in}
use Rattle.vid_base.specs.Sizes.{most_macro_blocks}
use Rattle.vid_base.specs.Rules.{Rule, first_fault, unless}

-- no size is 0, and the picture lies inside the coded frame
abbrev pub has_sound_sizes : Header → Bool
has_sound_sizes h = nat_lt 0 h.fmbw && nat_lt 0 h.fmbh && nat_lt 0 h.picw && nat_lt 0 h.pich && nat_le (h.picx + h.picw) (16 * h.fmbw) && nat_le (h.picy + h.pich) (16 * h.fmbh)

-- the rules of the fields; that there are at most 131,072 macro blocks is one of this project
unfoldable pub header_rules : Header → List (Rule PacketFault)
header_rules h =
    (h.vmaj == 3 && h.vmin == 2, Version)
    ∷ (has_sound_sizes h, BadSize)
    ∷ (nat_le (h.fmbw * h.fmbh) most_macro_blocks, TooLarge)
    ∷ (nat_lt 0 h.frn && nat_lt 0 h.frd, BadRate)
    ∷ (not (h.pf == 1), PixelFormat)
    ∷ (h.reserved == 0, Reserved)
    ∷ []

-- the rules of a packet
unfoldable pub ident_rules : List ℕ → List (Rule PacketFault)
ident_rules bytes =
    (starts_with nat_eq bytes ident_name, NotIdent)
    ∷ (nat_le ident_length (length bytes), Ended)
    ∷ header_rules (header_in bytes)

-- what a packet says, or its first fault
unfoldable pub ident_of : List ℕ → Result Header PacketFault
ident_of bytes = unless (first_fault (ident_rules bytes)) (header_in bytes)

-- the fields of the header that says this: the version is 3.2, and the reserved bits are 0
abbrev pub header_of : Ident → Header
header_of i = record {
  vmaj = 3;
  vmin = 2;
  vrev = i.vrev;
  fmbw = i.fmbw;
  fmbh = i.fmbh;
  picw = i.picw;
  pich = i.pich;
  picx = i.picx;
  picy = i.picy;
  frn = i.frn;
  frd = i.frd;
  parn = i.parn;
  pard = i.pard;
  cs = i.cs;
  nombr = i.nombr;
  qual = i.qual;
  shift = i.shift;
  pf = i.pf;
  reserved = 0;
}
