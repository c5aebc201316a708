-- Whatever a setup header can say of limits and quantisers is read back as it is written. The laws cite these.
use Rattle.std.proofs.Common.{◌≡◌, ℕ, ◌^◌, ◌<◌, ◌≤◌, Bool, List, [], ◌∷◌, ◌++◌, length, get_or, max, fold, All, Ok, refl, arith}
use Rattle.std.proofs.Math.Pow.{pow_mono}
use Rattle.std.proofs.lemmas.List.Elements.{All-nil, All-cons, All-weaker}
use Rattle.vid_base.specs.Arithmetic.{bit_length}
use Rattle.vid_base.proofs.ArithmeticLemmas.{length_above, length_least}
use Rattle.thr_quant.specs.Limits.{IsLimits, width_of, limits_of, limits_bits}
use Rattle.thr_quant.specs.Ranges.{Ranges, ranges_of, ranges_bits}
use Rattle.thr_quant.specs.Ramps.{Ramps, AreOfPlanes, AreScales, IsBaseMatrix, IsRamps, scales_of, scales_bits, matrices_of, matrices_bits, pairs_of, pairs_bits, ramps_of, ramps_bits}
use Rattle.thr_quant.proofs.WidthLemmas.{all-wider}
use Rattle.thr_quant.proofs.WritingLemmas.{greatest-lt}
use Rattle.thr_quant.proofs.ReadingBackLemmas.{limits_of-limits_bits, scales_of-scales_bits, base_matrix_of-all_digits, items-matrix_list_bits, matrices_of-matrices_bits}
use Rattle.thr_quant.proofs.RangesBackLemmas.{ranges_of-ranges_bits, pair_of-intra, pair_of-inter}
use Rattle.thr_quant.proofs.PairsLemmas.{three-is, pairs_of-pairs_bits, ramps_of-ramps_bits}

-- the greatest number is no less than each
upto_greatest : (a : ℕ) (xs : List ℕ) → (a ≤ fold max a xs) × All (λ v. v ≤ fold max a xs) xs
upto_greatest a [] = (omega arith, All-nil _)
upto_greatest a (x ∷ xs) =
    let rest = upto_greatest (max a x) xs in
    (omega (arith, rest.0), All-cons (λ v. v ≤ fold max (max a x) xs) x xs (omega (arith, rest.0)) rest.1)

-- the width of numbers of so many bits, in which each of them fits
width-fits : (k : ℕ) (xs : List ℕ) → k ≤ 16 → All (λ v. v < 2 ^ k) xs → (width_of xs ≤ k) × All (λ v. v < 2 ^ width_of xs) xs
unfolding width_of
width-fits k xs few small =
    let greatest : fold max 0 xs < 2 ^ k = greatest-lt (2 ^ k) 0 xs (omega (arith, pow_mono {i = 0} {j = k} (omega arith))) small in
    let word : fold max 0 xs < 2 ^ 32 = omega (arith, greatest, pow_mono {i = k} {j = 16} few) in (
      length_least (fold max 0 xs) word k greatest,
      All-weaker (λ v. v ≤ fold max 0 xs) (λ v. v < 2 ^ bit_length (fold max 0 xs)) (λ v h. omega (arith, h, length_above (fold max 0 xs) word)) xs (upto_greatest 0 xs).1,
    )

pub limits_back : (limits : List ℕ) (rest : List Bool) → IsLimits limits → limits_of (limits_bits limits ++ rest) ≡ Ok (limits, rest)
limits_back limits rest is =
    let width = width-fits 7 limits (omega arith) is.small in
    limits_of-limits_bits limits rest is.count (omega (arith, width.0)) width.1

scales-back : (scales : List ℕ) (rest : List Bool) → AreScales scales → scales_of (scales_bits scales ++ rest) ≡ Ok (scales, rest)
scales-back scales rest is =
    let width = width-fits 16 scales (omega arith) is.small in
    scales_of-scales_bits scales rest is.count width.0 (all-wider (width_of scales) (max 1 (width_of scales)) scales (omega arith) width.1)

matrices-back : (list : List (List ℕ)) (rest : List Bool) → (0 < length list) × (length list ≤ 384) → All IsBaseMatrix list → matrices_of (matrices_bits list ++ rest) ≡ Ok (list, rest)
matrices-back list rest count each =
    matrices_of-matrices_bits list rest count.0 count.1
    (items-matrix_list_bits list rest (λ k d h after. base_matrix_of-all_digits (get_or list k d) after (each k d h).count (each k d h).bytes))

-- ranges of a plane
one-back : (n k : ℕ) (blank : Ranges) (list : List Ranges) (after : List Bool) → n ≤ 384 → k < 3 → AreOfPlanes n list
    → ranges_of n (ranges_bits n (get_or list k blank) ++ after) ≡ Ok (get_or list k blank, after)
one-back n k blank list after few less of =
    let there : k < length list = omega (arith, of.planes) in
    ranges_of-ranges_bits n (get_or list k blank) after few (of.whole k blank there) (of.named k blank there)

pairs-back : (n : ℕ) (intra inter : List Ranges) (rest : List Bool) → n ≤ 384 → AreOfPlanes n intra → AreOfPlanes n inter → pairs_of n (pairs_bits n intra inter ++ rest) ≡ Ok ((intra, inter), rest)
pairs-back n intra inter rest few f g =
    let blank : Ranges = record { start = 0; list = [] } in
    let y = get_or intra 0 blank in
    let cb = get_or intra 1 blank in
    let cr = get_or intra 2 blank in
    let inter_y = get_or inter 0 blank in
    let inter_cb = get_or inter 1 blank in
    let inter_cr = get_or inter 2 blank in
    pairs_of-pairs_bits n intra inter y cb cr inter_y inter_cb inter_cr rest
    (three-is intra blank blank blank f.planes) (three-is inter blank blank blank g.planes)
    (λ after. one-back n 0 blank intra after few (omega arith) f)
    (λ after. pair_of-intra n y cb after (λ _ more. one-back n 1 blank intra more few (omega arith) f))
    (λ after. pair_of-intra n cb cr after (λ _ more. one-back n 2 blank intra more few (omega arith) f))
    (λ after. pair_of-inter n cr y inter_y after (λ _ _ more. one-back n 0 blank inter more few (omega arith) g))
    (λ after. pair_of-inter n inter_y cb inter_cb after (λ _ _ more. one-back n 1 blank inter more few (omega arith) g))
    (λ after. pair_of-inter n inter_cb cr inter_cr after (λ _ _ more. one-back n 2 blank inter more few (omega arith) g))

pub ramps_back : (ramps : Ramps) (rest : List Bool) → IsRamps ramps → ramps_of (ramps_bits ramps ++ rest) ≡ Ok (ramps, rest)
ramps_back ramps rest is =
    ramps_of-ramps_bits ramps (length ramps.matrices) ramps.matrices rest refl refl
    (λ after. scales-back ramps.ac after is.ac) (λ after. scales-back ramps.dc after is.dc)
    (λ after. matrices-back ramps.matrices after is.count is.matrices)
    (λ after. pairs-back (length ramps.matrices) ramps.intra ramps.inter after is.count.1 is.intra is.inter)
