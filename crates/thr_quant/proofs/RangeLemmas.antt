-- Ranges one behind the other: one more, a fault in place of one, the end. The reader of ranges cites these.
use Rattle.std.proofs.Common.{◌≡◌, ℕ, zero, suc, ◌+◌, ◌-◌, ◌<◌, ◌≤◌, Bool, List, [], ◌∷◌, ◌++◌, length, Ok, Err, Result, refl, ap, arith, append_assoc}
use Rattle.std.proofs.lemmas.List.{append-nil, length_push}
use Rattle.vid_base.specs.declared.fault.PacketFault.{PacketFault}
use Rattle.vid_base.specs.Items.{with_front}
use Rattle.vid_base.specs.Reading.{◌>>=◌}
use Rattle.thr_quant.specs.declared.ranges.Range.{Range}
use Rattle.thr_quant.specs.Ranges.{range_of, list_of}

regroup : {A F : Type 0} (front : List A) (x : A) (read : Result (List A × List Bool) F) → with_front (front ++ x ∷ []) read ≡ with_front front (read >>= (λ others. Ok (x ∷ others.0, others.1)))
regroup front x (Ok y) = ap (λ zs. Ok (zs, y.1)) (append_assoc front (x ∷ []) y.0)
regroup front x (Err e) = refl

one_more : (most n left : ℕ) (front : List Range) (x : Range) (bits rest : List Bool) → 0 < left → range_of n left bits ≡ Ok (x, rest)
    → with_front (front ++ x ∷ []) (list_of most n (left - x.size) rest) ≡ with_front front (list_of (suc most) n left bits)
unfolding list_of
one_more most n zero front x bits rest k e = absurd (omega arith)
one_more most n (suc left) front x bits rest k e = rw e (regroup front x (list_of most n (suc left - x.size) rest))

-- one range more
pub ranges_step : (n left : ℕ) (front all : List Range) (x : Range) (bits rest : List Bool) → all ≡ front ++ x ∷ [] → 0 < left → length front + left ≤ 63 → range_of n left bits ≡ Ok (x, rest)
    → with_front all (list_of (63 - length all) n (left - x.size) rest) ≡ with_front front (list_of (63 - length front) n left bits)
ranges_step n left front all x bits rest pushed h room e =
    let most : 63 - length front ≡ suc (63 - length (front ++ x ∷ [])) = omega (arith, length_push front x) in
    rw (pushed, most) (one_more (63 - length (front ++ x ∷ [])) n left front x bits rest h e)

-- a fault in place of a range
pub ranges_fault : (most n left : ℕ) (front : List Range) (fault : PacketFault) (bits : List Bool) → 0 < most → 0 < left → range_of n left bits ≡ Err fault
    → with_front front (list_of most n left bits) ≡ Err fault
unfolding list_of
ranges_fault zero n left front fault bits h k e = absurd (omega arith)
ranges_fault (suc most) n zero front fault bits h k e = absurd (omega arith)
ranges_fault (suc most) n (suc left) front fault bits h k e = rw e refl

-- no step is left
pub ranges_end : (most n left : ℕ) (front : List Range) (bits : List Bool) → left ≡ 0 → with_front front (list_of most n left bits) ≡ Ok (front, bits)
unfolding list_of
ranges_end zero n left front bits e = rw e (ap (λ xs. Ok (xs, bits)) (append-nil front))
ranges_end (suc most) n left front bits e = rw e (ap (λ xs. Ok (xs, bits)) (append-nil front))
