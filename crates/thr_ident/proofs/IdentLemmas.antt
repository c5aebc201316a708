-- The header of an ident keeps all rules, so it is read as it was written. `write_ident` and crates above cite this.
use Rattle.std.proofs.Common.{◌≡◌, ℕ, List, ◌++◌, Ok, arith, refl}
use Rattle.thr_ident.specs.declared.ident.Ident.{Ident}
use Rattle.thr_ident.specs.Header.{header_bytes, Fits}
use Rattle.thr_ident.specs.Ident.{ident_of, header_of}
use Rattle.thr_ident.proofs.RuleLemmas.{Keeps, ident_of-bytes}

-- its fields fit their bits
fits_of : (ident : Ident) → Fits (header_of ident)
fits_of ident = record {
  vmaj = omega arith;
  vmin = omega arith;
  vrev = ident.byte.0;
  fmbw = ident.two_bytes.0;
  fmbh = ident.two_bytes.1;
  picw = omega arith;
  pich = omega arith;
  picx = ident.byte.1;
  picy = ident.byte.2;
  frn = ident.four_bytes.0;
  frd = ident.four_bytes.1;
  parn = ident.three_bytes.0;
  pard = ident.three_bytes.1;
  cs = ident.byte.3;
  nombr = ident.three_bytes.2;
  qual = ident.bits.0;
  shift = ident.bits.1;
  pf = omega arith;
  reserved = omega arith;
}

-- its fields break no rule
keeps_of : (ident : Ident) → Keeps (header_of ident)
keeps_of ident = record {
  vmaj = refl;
  vmin = refl;
  wide = ident.coded.0;
  high = ident.coded.1;
  picw = ident.picture.0;
  pich = ident.picture.1;
  across = ident.across;
  upwards = ident.upwards;
  small = ident.small;
  frn = ident.rate.0;
  frd = ident.rate.1;
  pf = ident.format.1;
  reserved = refl;
}

-- what was written of an ident is read as that, whatever follows it
pub ident_of-header_bytes : (ident : Ident) (rest : List ℕ) → ident_of (header_bytes (header_of ident) ++ rest) ≡ Ok (header_of ident)
ident_of-header_bytes ident rest = ident_of-bytes (header_of ident) rest (fits_of ident) (keeps_of ident)
