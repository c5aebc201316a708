-- A header without a fault keeps all rules, and one that keeps them is read as it was written.
-- Making an `Ident` of a header, and `write_ident`, cite these.
use Rattle.std.proofs.Common.{◌≡◌, ◌≢◌, ℕ, ◌+◌, ◌*◌, ◌<◌, ◌≤◌, true, false, not, ◌&&◌, nat_eq, nat_lt, nat_le, None, Ok, List, ◌∷◌, ◌++◌, length, length-append, refl, sym, arith}
use Rattle.std.proofs.lemmas.Bool.{and_parts, and_from, eqb-true, eqb-false, eq-eqb, ne_eqb, not-true, ltb-true, lt-ltb, leb-true, le-leb}
use Rattle.vid_base.specs.declared.fault.PacketFault.{PacketFault}
use Rattle.vid_base.specs.Rules.{Rule, first_fault}
use Rattle.thr_ident.specs.Ident.{header_rules, has_sound_sizes, ident_rules, ident_of}
use Rattle.thr_ident.specs.Header.{Header, header_in, header_bytes, Fits}
use Rattle.thr_ident.proofs.LayoutLemmas.{header_in-bytes, length-header_bytes}

-- the rules of the fields as facts
pub record Keeps (h : Header) : Type 0 where
  pub vmaj : h.vmaj ≡ 3
  pub vmin : h.vmin ≡ 2
  pub wide : 0 < h.fmbw
  pub high : 0 < h.fmbh
  pub picw : 0 < h.picw
  pub pich : 0 < h.pich
  pub across : h.picx + h.picw ≤ 16 * h.fmbw
  pub upwards : h.picy + h.pich ≤ 16 * h.fmbh
  pub small : h.fmbw * h.fmbh ≤ 131072
  pub frn : 0 < h.frn
  pub frd : 0 < h.frd
  pub pf : h.pf ≢ 1
  pub reserved : h.reserved ≡ 0

-- where no rule is broken, the first is kept, and none of the others is broken
first_kept : (rule : Rule PacketFault) (rules : List (Rule PacketFault)) → first_fault (rule ∷ rules) ≡ None → (rule.0 ≡ true) × (first_fault rules ≡ None)
unfolding first_fault
first_kept (true, fault) rules e = (refl, e)
first_kept (false, fault) rules e = cc

-- a header whose fields break no rule
pub kept : (h : Header) → first_fault (header_rules h) ≡ None → Keeps h
unfolding header_rules
kept h e =
    let version = first_kept _ _ e in
    let sizes = first_kept _ _ version.1 in
    let count = first_kept _ _ sizes.1 in
    let rate = first_kept _ _ count.1 in
    let format = first_kept _ _ rate.1 in
    let reserved = first_kept _ _ format.1 in
    let v : (nat_eq h.vmaj 3 ≡ true) × (nat_eq h.vmin 2 ≡ true) = and_parts _ _ version.0 in
    let s5 = and_parts _ _ sizes.0 in
    let s4 = and_parts _ _ s5.0 in
    let s3 = and_parts _ _ s4.0 in
    let s2 = and_parts _ _ s3.0 in
    let s1 = and_parts _ _ s2.0 in
    let r = and_parts _ _ rate.0 in
    record {
      vmaj = eqb-true h.vmaj 3 v.0;
      vmin = eqb-true h.vmin 2 v.1;
      wide = ltb-true 0 h.fmbw s1.0;
      high = ltb-true 0 h.fmbh s1.1;
      picw = ltb-true 0 h.picw s2.1;
      pich = ltb-true 0 h.pich s3.1;
      across = leb-true (h.picx + h.picw) (16 * h.fmbw) s4.1;
      upwards = leb-true (h.picy + h.pich) (16 * h.fmbh) s5.1;
      small = leb-true (h.fmbw * h.fmbh) 131072 count.0;
      frn = ltb-true 0 h.frn r.0;
      frd = ltb-true 0 h.frd r.1;
      pf = eqb-false h.pf 1 (not-true (nat_eq h.pf 1) format.0);
      reserved = eqb-true h.reserved 0 reserved.0;
    }

-- such a header is told by the fields that an ident has
pub header_same : (h : Header) → h.vmaj ≡ 3 → h.vmin ≡ 2 → h.reserved ≡ 0 → record h { vmaj = 3; vmin = 2; reserved = 0 } ≡ h
header_same h major minor reserved = λ i. record h { vmaj = sym major i; vmin = sym minor i; reserved = sym reserved i }

-- a header that keeps all rules breaks none
faultless : (h : Header) → Keeps h → first_fault (header_rules h) ≡ None
unfolding first_fault header_rules
faultless h keeps =
    let version : (nat_eq h.vmaj 3 && nat_eq h.vmin 2) ≡ true = and_from _ _ (eq-eqb h.vmaj 3 keeps.vmaj) (eq-eqb h.vmin 2 keeps.vmin) in
    let across : nat_le (h.picx + h.picw) (16 * h.fmbw) ≡ true = le-leb _ _ keeps.across in
    let upwards : nat_le (h.picy + h.pich) (16 * h.fmbh) ≡ true = le-leb _ _ keeps.upwards in
    let sizes : has_sound_sizes h ≡ true = rw (lt-ltb 0 h.fmbw keeps.wide, lt-ltb 0 h.fmbh keeps.high, lt-ltb 0 h.picw keeps.picw, lt-ltb 0 h.pich keeps.pich, across, upwards) refl in
    let small : nat_le (h.fmbw * h.fmbh) 131072 ≡ true = le-leb _ _ keeps.small in
    let rate : (nat_lt 0 h.frn && nat_lt 0 h.frd) ≡ true = and_from _ _ (lt-ltb 0 h.frn keeps.frn) (lt-ltb 0 h.frd keeps.frd) in
    let format : not (nat_eq h.pf 1) ≡ true = rw (ne_eqb h.pf 1 keeps.pf) refl in
    let reserved : nat_eq h.reserved 0 ≡ true = eq-eqb h.reserved 0 keeps.reserved in
    rw (version, sizes, small, rate, format, reserved) refl

-- what was written is read, whatever follows it
pub ident_of-bytes : (h : Header) (rest : List ℕ) → Fits h → Keeps h → ident_of (header_bytes h ++ rest) ≡ Ok h
unfolding ident_of ident_rules first_fault header_bytes
ident_of-bytes h rest fits keeps =
    let same : header_in (header_bytes h ++ rest) ≡ h = header_in-bytes h rest fits in
    let long : nat_le 42 (length (header_bytes h ++ rest)) ≡ true = le-leb 42 (length (header_bytes h ++ rest)) (omega (arith, length-append (header_bytes h) rest, length-header_bytes h)) in
    rw (same, long, faultless h keeps) refl
