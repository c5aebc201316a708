-- The fields of a header as the reader of this crate holds them (own).
use Rattle.thr_ident.specs.declared.header.Fields.{Fields}
use Rattle.thr_ident.specs.Header.{Header}

-- what they say
abbrev pub header_from : Fields → Header
header_from f = record {
  vmaj = f.vmaj;
  vmin = f.vmin;
  vrev = f.vrev;
  fmbw = f.fmbw;
  fmbh = f.fmbh;
  picw = f.picw;
  pich = f.pich;
  picx = f.picx;
  picy = f.picy;
  frn = f.frn;
  frd = f.frd;
  parn = f.parn;
  pard = f.pard;
  cs = f.cs;
  nombr = f.nombr;
  qual = f.qual;
  shift = f.shift;
  pf = f.pf;
  reserved = f.reserved;
}
