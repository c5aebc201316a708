-- What was read of ranges, of the pairs and of all quantisers is what a setup header can say. The laws cite these.
use Rattle.std.proofs.Common.{◌≡◌, ℕ, zero, suc, ◌+◌, ◌-◌, ◌<◌, ◌≤◌, Bool, true, false, cond, nat_eq, List, [], ◌∷◌, length, sum_by, All, Option, Some, None, Ok, refl, ◌∙◌, arith}
use Rattle.std.proofs.Math.Dec.{ltb}
use Rattle.std.proofs.lemmas.Bool.{ltb-false, ltb-true}
use Rattle.std.proofs.lemmas.List.Sums.{sum_by-cons}
use Rattle.std.proofs.lemmas.List.Elements.{All-nil, All-cons}
use Rattle.vid_base.specs.declared.fault.PacketFault.TheVariants.{MatrixIndex, Ramp}
use Rattle.vid_base.specs.Arithmetic.{bit_length}
use Rattle.vid_base.specs.Reading.{field}
use Rattle.vid_base.proofs.SoundLemmas.{value-is, went_on, unless_met, where_met}
use Rattle.thr_quant.specs.declared.ranges.Range.{Range}
use Rattle.thr_quant.specs.Ranges.{Ranges, AreWhole, NameMatrices, matrix_index_of, range_of, list_of, ranges_of}
use Rattle.thr_quant.specs.Ramps.{Ramps, AreOfPlanes, IsRamps, copy_of, pair_of, pairs_of, ramps_of, scales_of, matrices_of}
use Rattle.thr_quant.proofs.SoundLemmas.{scales_of-sound, matrices_of-sound}

-- an index names a base matrix
index-sound : (n : ℕ) (bits : List Bool) (y : ℕ × List Bool) → matrix_index_of n bits ≡ Ok y → y.0 < n
unfolding matrix_index_of
index-sound n bits y e =
    let index = went_on (field (bit_length (n - 1)) bits) _ y e in
    let named = where_met (ltb index.0.0 n) MatrixIndex (Ok index.0) y index.2 in
    let same : index.0.0 ≡ y.0 = cc in
    rw (← same) (ltb-true index.0.0 n named.0)

-- a range takes a step at least, and no more than are left
record IsFitting (n left : ℕ) (range : Range) : Type 0 where
  pub some : 0 < range.size
  pub fits : range.size ≤ left
  pub named : range.next < n

range-sound : (n left : ℕ) (bits : List Bool) (y : Range × List Bool) → range_of n left bits ≡ Ok y → IsFitting n left y.0
unfolding range_of
range-sound n left bits y e =
    let size = went_on (field (bit_length (left - 1)) bits) _ y e in
    let next = went_on (matrix_index_of n size.0.1) _ y size.2 in
    let within = unless_met (ltb left (size.0.0 + 1)) Ramp _ y next.2 in
    let at_most : size.0.0 + 1 ≤ left = ltb-false left (size.0.0 + 1) within.0 in
    let same : record { size = size.0.0 + 1; next = next.0.0 } ≡ y.0 = cc in
    rw (← same) (record { some = omega arith; fits = at_most; named = index-sound n size.0.1 next.0 next.1 })

-- ranges that together take the steps that are left
record AreFitting (n left : ℕ) (list : List Range) : Type 0 where
  pub sizes : All (λ range. 0 < range.size) list
  pub sum : sum_by (λ range. range.size) list ≡ left
  pub named : All (λ range. range.next < n) list

fitting-nil : (n : ℕ) → AreFitting n 0 []
fitting-nil n = record { sizes = All-nil _; sum = refl; named = All-nil _ }

fitting-cons : (n left : ℕ) (range : Range) (list : List Range) → IsFitting n left range → AreFitting n (left - range.size) list → AreFitting n left (range ∷ list)
fitting-cons n left range list first others = record {
  sizes = All-cons (λ (r : Range). 0 < r.size) range list first.some others.sizes;
  sum = sum_by-cons (λ (r : Range). r.size) range list ∙ omega (arith, others.sum, first.fits);
  named = All-cons (λ (r : Range). r.next < n) range list first.named others.named;
}

list-sound : (most n left : ℕ) (bits : List Bool) (y : List Range × List Bool) → list_of most n left bits ≡ Ok y → AreFitting n left y.0
unfolding list_of
list-sound zero n zero bits y e = let same : [] ≡ y.0 = cc in rw (← same) (fitting-nil n)
list-sound (suc most) n zero bits y e = let same : [] ≡ y.0 = cc in rw (← same) (fitting-nil n)
list-sound zero n (suc left) bits y e = cc
list-sound (suc most) n (suc left) bits y e =
    let first = went_on (range_of n (suc left) bits) _ y e in
    let others = went_on (list_of most n (suc left - first.0.0.size) first.0.1) _ y first.2 in
    let same : first.0.0 ∷ others.0.0 ≡ y.0 = cc in
    rw (← same) (fitting-cons n (suc left) first.0.0 others.0.0 (range-sound n (suc left) bits first.0 first.1) (list-sound most n (suc left - first.0.0.size) first.0.1 others.0 others.1))

-- ranges that lead from index 0 to 63 and name base matrices
pub record AreRanges (n : ℕ) (ranges : Ranges) : Type 0 where
  pub whole : AreWhole ranges.list
  pub named : NameMatrices n ranges

ranges-sound : (n : ℕ) (bits : List Bool) (y : Ranges × List Bool) → ranges_of n bits ≡ Ok y → AreRanges n y.0
unfolding ranges_of
ranges-sound n bits y e =
    let start = went_on (matrix_index_of n bits) _ y e in
    let list = went_on (list_of 63 n 63 start.0.1) _ y start.2 in
    let fitting = list-sound 63 n 63 start.0.1 list.0 list.1 in
    let same : record { start = start.0.0; list = list.0.0 } ≡ y.0 = cc in
    rw (← same) (record {
      whole = record { sizes = fitting.sizes; sum = fitting.sum };
      named = record { start = index-sound n bits start.0 start.1; next = fitting.named };
    })

-- what a copy may be of
IsSource : ℕ → Option Ranges → Type 0
IsSource n None = Unit {0}
IsSource n (Some ranges) = AreRanges n ranges

one_of : (n : ℕ) (test : Bool) (a b : Ranges) → AreRanges n a → AreRanges n b → AreRanges n (cond test a b)
one_of n true a b f g = f
one_of n false a b f g = g

copy-sound : (n : ℕ) (before : Ranges) (plane : Option Ranges) (bits : List Bool) (y : Ranges × List Bool) → AreRanges n before → IsSource n plane → copy_of before plane bits ≡ Ok y → AreRanges n y.0
unfolding copy_of IsSource
copy-sound n before None bits y sound source e = let same : before ≡ y.0 = cc in rw (← same) sound
copy-sound n before (Some plane) bits y sound source e =
    let rpqr = went_on (field 1 bits) _ y e in
    let same : cond (nat_eq rpqr.0.0 1) plane before ≡ y.0 = cc in
    rw (← same) (one_of n (nat_eq rpqr.0.0 1) plane before source sound)

pair-sound : (n : ℕ) (before : Ranges) (plane : Option Ranges) (bits : List Bool) (y : Ranges × List Bool) → AreRanges n before → IsSource n plane → pair_of n before plane bits ≡ Ok y → AreRanges n y.0
unfolding pair_of
pair-sound n before plane bits y sound source e =
    let newqr = went_on (field 1 bits) _ y e in
    go (nat_eq newqr.0.0 1) newqr.0.1 newqr.2
  where
    go : (test : Bool) (behind : List Bool) → cond test (ranges_of n behind) (copy_of before plane behind) ≡ Ok y → AreRanges n y.0
    go true behind f = ranges-sound n behind y f
    go false behind f = copy-sound n before plane behind y sound source f

of_planes : (n : ℕ) (a b c : Ranges) → AreRanges n a → AreRanges n b → AreRanges n c → AreOfPlanes n (a ∷ b ∷ c ∷ [])
of_planes n a b c f g h = record {
  planes = refl;
  whole = All-cons (λ (r : Ranges). AreWhole r.list) a (b ∷ c ∷ []) f.whole (All-cons (λ (r : Ranges). AreWhole r.list) b (c ∷ []) g.whole (All-cons (λ (r : Ranges). AreWhole r.list) c [] h.whole (All-nil _)));
  named = All-cons (NameMatrices n) a (b ∷ c ∷ []) f.named (All-cons (NameMatrices n) b (c ∷ []) g.named (All-cons (NameMatrices n) c [] h.named (All-nil _)));
}

-- all six pairs
pairs-sound : (n : ℕ) (bits : List Bool) (y : (List Ranges × List Ranges) × List Bool) → pairs_of n bits ≡ Ok y → AreOfPlanes n y.0.0 × AreOfPlanes n y.0.1
unfolding pairs_of IsSource
pairs-sound n bits y e =
    let a = went_on (ranges_of n bits) _ y e in
    let b = went_on (pair_of n a.0.0 None a.0.1) _ y a.2 in
    let c = went_on (pair_of n b.0.0 None b.0.1) _ y b.2 in
    let d = went_on (pair_of n c.0.0 (Some a.0.0) c.0.1) _ y c.2 in
    let f = went_on (pair_of n d.0.0 (Some b.0.0) d.0.1) _ y d.2 in
    let g = went_on (pair_of n f.0.0 (Some c.0.0) f.0.1) _ y f.2 in
    let sound_a = ranges-sound n bits a.0 a.1 in
    let sound_b = pair-sound n a.0.0 None a.0.1 b.0 sound_a tt b.1 in
    let sound_c = pair-sound n b.0.0 None b.0.1 c.0 sound_b tt c.1 in
    let sound_d = pair-sound n c.0.0 (Some a.0.0) c.0.1 d.0 sound_c sound_a d.1 in
    let sound_f = pair-sound n d.0.0 (Some b.0.0) d.0.1 f.0 sound_d sound_b f.1 in
    let sound_g = pair-sound n f.0.0 (Some c.0.0) f.0.1 g.0 sound_f sound_c g.1 in
    let same : (a.0.0 ∷ b.0.0 ∷ c.0.0 ∷ [], d.0.0 ∷ f.0.0 ∷ g.0.0 ∷ []) ≡ y.0 = value-is (a.0.0 ∷ b.0.0 ∷ c.0.0 ∷ [], d.0.0 ∷ f.0.0 ∷ g.0.0 ∷ []) g.0.1 y g.2 in
    rw (← same) (of_planes n a.0.0 b.0.0 c.0.0 sound_a sound_b sound_c, of_planes n d.0.0 f.0.0 g.0.0 sound_d sound_f sound_g)

-- all quantisers
pub ramps_of-sound : (bits : List Bool) (y : Ramps × List Bool) → ramps_of bits ≡ Ok y → IsRamps y.0
unfolding ramps_of
ramps_of-sound bits y e =
    let ac = went_on (scales_of bits) _ y e in
    let dc = went_on (scales_of ac.0.1) _ y ac.2 in
    let matrices = went_on (matrices_of dc.0.1) _ y dc.2 in
    let six = went_on (pairs_of (length matrices.0.0) matrices.0.1) _ y matrices.2 in
    let list = matrices_of-sound dc.0.1 matrices.0 matrices.1 in
    let pairs = pairs-sound (length matrices.0.0) matrices.0.1 six.0 six.1 in
    let ramps : Ramps = record { ac = ac.0.0; dc = dc.0.0; matrices = matrices.0.0; intra = six.0.0.0; inter = six.0.0.1 } in
    let same : ramps ≡ y.0 = value-is ramps six.0.1 y six.2 in
    rw (← same) (record {
      ac = scales_of-sound bits ac.0 ac.1;
      dc = scales_of-sound ac.0.1 dc.0 dc.1;
      count = list.0;
      matrices = list.1;
      intra = pairs.0;
      inter = pairs.1;
    })
