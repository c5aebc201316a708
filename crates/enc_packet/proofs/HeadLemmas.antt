-- What is written for a head is read as it. `write_head` cites these.
use Rattle.std.proofs.Common.{◌≡◌, ℕ, ◌+◌, ◌<◌, ◌≤◌, ◌^◌, Bool, true, false, not, List, [], ◌∷◌, ◌++◌, length, Ok, refl, ap, arith, lit<, append_assoc, length-append}
use Rattle.vid_base.specs.Bits.{digits}
use Rattle.vid_base.specs.Reading.{one_bit}
use Rattle.vid_base.specs.Writing.{ReadsBack}
use Rattle.vid_base.proofs.DigitLemmas.{length-digits}
use Rattle.vid_base.proofs.NumberLemmas.{take-digits}
use Rattle.thr_frame.specs.FrameHead.{head_of, head_with, more_qis, qis_of, reserved_of}
use Rattle.enc_packet.specs.WrittenHead.{end_code, head_code}

head_reads : (intra : Bool) (qi : ℕ) (rest : List Bool) → qi < 2 ^ 6 → head_of (head_code intra qi ++ rest) ≡ Ok (head_with intra (qi ∷ []), rest)
unfolding head_of head_code end_code one_bit qis_of more_qis reserved_of
head_reads true qi rest lt =
    let none : 0 < 2 ^ 3 = lit< tt in
    rw (append_assoc (digits 6 qi) (false ∷ digits 3 0) rest, take-digits 6 qi (false ∷ (digits 3 0 ++ rest)) lt, take-digits 3 0 rest none) refl
head_reads false qi rest lt = rw (append_assoc (digits 6 qi) (false ∷ []) rest, take-digits 6 qi (false ∷ rest) lt) refl

-- the steps of the writer
pub head_back : (intra : Bool) (qi : ℕ) (old one two three new : List Bool) → qi < 2 ^ 6
    → one ≡ old ++ false ∷ [] → two ≡ one ++ not intra ∷ [] → three ≡ two ++ digits 6 qi → new ≡ three ++ end_code intra
    → ReadsBack head_of (head_with intra (qi ∷ [])) old new
unfolding head_code
head_back intra qi old one two three new lt first second third last = record {
  more = head_code intra qi;
  added = rw (last, third, second, first) (simp append_assoc);
  reads = λ rest. head_reads intra qi rest lt;
}

length-end : (intra : Bool) → length (end_code intra) ≤ 4
unfolding end_code
length-end true = omega (arith, length-digits 3 0)
length-end false = omega arith

pub head_few : (intra : Bool) (qi : ℕ) (old one two three new : List Bool)
    → one ≡ old ++ false ∷ [] → two ≡ one ++ not intra ∷ [] → three ≡ two ++ digits 6 qi → new ≡ three ++ end_code intra
    → length new ≤ length old + 12
head_few intra qi old one two three new first second third last = omega (
  arith,
  ap length first,
  ap length second,
  ap length third,
  ap length last,
  length-append old (false ∷ []),
  length-append one (not intra ∷ []),
  length-append two (digits 6 qi),
  length-append three (end_code intra),
  length-digits 6 qi,
  length-end intra,
)
