-- Which readings take their bits from the front, and what they read of a packet that is cut. Readers of whole packets cite these.
use Rattle.std.proofs.Common.{◌≡◌, ℕ, zero, suc, ◌+◌, ◌-◌, ◌<◌, ◌≤◌, Bool, true, false, List, [], ◌∷◌, ◌++◌, length, length-append, take, drop, Result, Ok, Err, refl, ap, sym, ◌∙◌, subst, inl, inr, arith}
use Rattle.std.specs.Prelude.{if◌then◌else◌}
use Rattle.std.proofs.Math.Seq.{take-append_seam}
use Rattle.std.proofs.lemmas.Bool.{cases_lt}
use Rattle.std.proofs.lemmas.List.{length-drop, drop-append-le, take-append-le, take-append-drop}
use Rattle.vid_base.specs.declared.fault.PacketFault.{PacketFault}
use Rattle.vid_base.specs.declared.fault.PacketFault.TheVariants.{Ended}
use Rattle.vid_base.specs.Bits.{number}
use Rattle.vid_base.specs.Reading.{◌>>=◌, field, one_bit}
use Rattle.vid_base.specs.Items.{items, with_front}
use Rattle.vid_base.specs.Fronts.{chained, Continues, LeavesLess, ReadsCut, ReadsFront}
use Rattle.vid_base.proofs.NumberLemmas.{take-none, taken-enough}

-- what a reading of A is
abbrev pub Read : Type 0 → Type 0
Read A = Result (A × List Bool) PacketFault

ok_parts : {A : Type 0} (v w : A) (bits left : List Bool) → ◌≡◌ {A = Read A} (Ok (v, bits)) (Ok (w, left)) → (v ≡ w) × (bits ≡ left)
ok_parts {A} v w bits left e = let pair : ◌≡◌ {A = A × List Bool} (v, bits) (w, left) = cc in (ap (λ p. p.0) pair, ap (λ p. p.1) pair)

-- a value that needs no bits
pub front-value : {A : Type 0} (v : A) → ReadsFront (λ bits. Ok (v, bits))
front-value v = record {
  rest = λ w bits left e. omega (arith, ap length (ok_parts v w bits left e).1);
  front = λ bits more. refl;
}

-- a fault whatever the bits are
pub front-fault : {A : Type 0} (fault : PacketFault) → ReadsFront {A = A} (λ bits. Err fault)
front-fault fault = record {
  rest = λ w bits left e. cc;
  front = λ bits more. inl refl;
}

-- one of two readings
pub front-if : {A : Type 0} (test : Bool) (read other : List Bool → Read A) → ReadsFront read → ReadsFront other → ReadsFront (λ bits. if test then read bits else other bits)
front-if true read other f g = f
front-if false read other f g = g

-- a reading that is another's wherever it is tried
pub front-same : {A : Type 0} (read other : List Bool → Read A) → ((bits : List Bool) → read bits ≡ other bits) → ReadsFront read → ReadsFront other
front-same read other same f = record {
  rest = λ v bits left e. f.rest v bits left (same bits ∙ e);
  front = λ bits more. rw (← same bits, ← same (bits ++ more)) (f.front bits more);
}

-- a field of n bits
pub front-field : (n : ℕ) → ReadsFront (field n)
front-field n = record {
  rest = λ v bits left e. elim (cases_lt (length bits) n) [
    | inl few ↦ let none = take-none n bits few in let wrong = rw none at e in cc
    | inr enough ↦ let some = taken-enough n bits enough in
        let found = rw some at e in
        omega (arith, length-drop n bits, ap length (ok_parts (number (take n bits)) v (drop n bits) left found).1)
  ];
  front = λ bits more. elim (cases_lt (length bits) n) [
    | inl few ↦ rw (take-none n bits few) (elim (cases_lt (length (bits ++ more)) n) [
      | inl both ↦ rw (take-none n (bits ++ more) both) (inl refl)
      | inr enough ↦ rw (taken-enough n (bits ++ more) enough) (inr (refl, omega (arith, length-drop n (bits ++ more), length-append bits more)))
    ])
    | inr enough ↦
        let all : n ≤ length (bits ++ more) = omega (arith, length-append bits more) in
        rw (taken-enough n bits enough, taken-enough n (bits ++ more) all, take-append-le n bits more enough, drop-append-le n bits more enough) refl
  ];
}

-- a bit
pub front-bit : ReadsFront one_bit
unfolding one_bit
front-bit = record {
  rest = bit_rest;
  front = bit_front;
}
  where
    bit_rest : (v : Bool) (bits left : List Bool) → one_bit bits ≡ Ok (v, left) → length left ≤ length bits
    bit_rest v [] left e = cc
    bit_rest v (bit ∷ bits) left e = omega (arith, ap length (ok_parts bit v bits left e).1)

    bit_front : (bits more : List Bool) → Continues (one_bit bits) (one_bit (bits ++ more)) more
    bit_front [] [] = inl refl
    bit_front [] (b ∷ more) = inr (refl, omega arith)
    bit_front (bit ∷ bits) more = refl

-- what reading goes on with leaves no more than was left
less_then : {A B : Type 0} (next : A × List Bool → Read B) → ((v : A) → ReadsFront (λ bits. next (v, bits))) → (whole : Read A) (more : List Bool)
    → LeavesLess whole more → LeavesLess (whole >>= next) more
less_then next f (Err fault) more h = tt
less_then next f (Ok read) more h = go (next read) refl
  where
    go : (last : Read _) → next read ≡ last → LeavesLess last more
    go (Err fault) e = tt
    go (Ok last) e = omega (arith, (f read.0).rest last.0 read.1 last.1 e)

then_rest : {A B : Type 0} (next : A × List Bool → Read B) → ((v : A) → ReadsFront (λ bits. next (v, bits))) → (first : Read A) (w : B) (left bits : List Bool)
    → ((v : A) (mid : List Bool) → first ≡ Ok (v, mid) → length mid ≤ length bits) → (first >>= next) ≡ Ok (w, left) → length left ≤ length bits
then_rest next f (Err fault) w left bits h e = cc
then_rest next f (Ok read) w left bits h e = omega (arith, h read.0 read.1 refl, (f read.0).rest w read.1 left e)

then_front : {A B : Type 0} (next : A × List Bool → Read B) → ((v : A) → ReadsFront (λ bits. next (v, bits))) → (first whole : Read A) (more : List Bool)
    → Continues first whole more → Continues (first >>= next) (whole >>= next) more
then_front next f (Ok read) whole more h = rw h ((f read.0).front read.1 more)
then_front next f (Err fault) whole more (inl same) = inl (ap (λ found. found >>= next) same)
then_front next f (Err fault) whole more (inr short) = inr (short.0, less_then next f whole more short.1)

-- one reading behind another
pub front-then : {A B : Type 0} (read : List Bool → Read A) (next : A × List Bool → Read B) → ReadsFront read → ((v : A) → ReadsFront (λ bits. next (v, bits)))
    → ReadsFront (chained read next)
front-then read next f g = record {
  rest = λ w bits left e. then_rest next g (read bits) w left bits (λ v mid. f.rest v bits mid) e;
  front = λ bits more. then_front next g (read bits) (read (bits ++ more)) more (f.front bits more);
}

-- items that were read before stand in front
pub front-with : {A : Type 0} (front : List A) (read : List Bool → Read (List A)) → ReadsFront read → ReadsFront (λ bits. with_front front (read bits))
front-with front read f = front-then read (λ rest. Ok (front ++ rest.0, rest.1)) f (λ others. front-value (front ++ others))

-- n items one behind the other
pub front-items : {A : Type 0} (item : List Bool → Read A) (n : ℕ) → ReadsFront item → ReadsFront (items item n)
unfolding items
front-items item zero f = front-value []
front-items item (suc n) f =
    front-then item (λ first. items item n first.1 >>= (λ others. Ok (first.0 ∷ others.0, others.1))) f
    (λ v. front-then (items item n) (λ others. Ok (v ∷ others.0, others.1)) (front-items item n f) (λ vs. front-value (v ∷ vs)))

-- where the first k bits reach so far
cut_reaches : {A : Type 0} (part whole : Read A) (v : A) (left more : List Bool) (n k : ℕ) → Continues part whole more → whole ≡ Ok (v, left) → length more + k ≡ n → n ≤ k + length left
    → part ≡ Ok (v, take (k + length left - n) left)
cut_reaches (Ok read) whole v left more n k h e len far =
    let same = ok_parts read.0 v (read.1 ++ more) left (sym h ∙ e) in
    let value : read.0 ≡ v = same.0 in
    let rest : read.1 ++ more ≡ left = same.1 in
    let few : k + length left - n ≡ length read.1 = omega (arith, sym (ap length rest), length-append read.1 more) in
    rw (few, ← rest, take-append_seam read.1 more, ← value) refl
cut_reaches {A} (Err fault) whole v left more n k (inl same) e len far = let wrong : ◌≡◌ {A = Read A} (Err fault) (Ok (v, left)) = sym same ∙ e in cc
cut_reaches (Err fault) whole v left more n k (inr short) e len far =
    let less : length left < length more = subst (λ found. LeavesLess found more) e short.1 in
    absurd (omega arith)

-- where they do not
cut_ends : {A : Type 0} (part whole : Read A) (v : A) (left more : List Bool) → Continues part whole more → whole ≡ Ok (v, left) → length left < length more → part ≡ Err Ended
cut_ends (Ok read) whole v left more h e less =
    let rest = (ok_parts read.0 v (read.1 ++ more) left (sym h ∙ e)).1 in
    absurd (omega (arith, ap length rest, length-append read.1 more))
cut_ends {A} (Err fault) whole v left more (inl same) e less = let wrong : ◌≡◌ {A = Read A} (Err fault) (Ok (v, left)) = sym same ∙ e in cc
cut_ends (Err fault) whole v left more (inr short) e less = ap Err (short.0)

-- what such a reading reads of a packet that is cut
pub cut-front : {A : Type 0} (read : List Bool → Read A) → ReadsFront read → ReadsCut read
cut-front read f = record {
  reaches = λ v bits left k e there far.
      cut_reaches (read (take k bits)) (read (take k bits ++ drop k bits)) v left (drop k bits) (length bits) k (f.front (take k bits) (drop k bits)) (ap read (take-append-drop k bits) ∙ e) (omega (arith, length-drop k bits)) far;
  ends = λ v bits left k e near.
      cut_ends (read (take k bits)) (read (take k bits ++ drop k bits)) v left (drop k bits) (f.front (take k bits) (drop k bits)) (ap read (take-append-drop k bits) ∙ e) (omega (arith, length-drop k bits));
}
