-- A rank read bit by bit: what the bits so far and those that are left say. `read_rank` cites these.
use Rattle.std.proofs.Common.{◌≡◌, ℕ, suc, ◌+◌, ◌-◌, ◌<◌, Bool, true, false, List, [], ◌∷◌, Result, Ok, Err, refl, ap, arith}
use Rattle.vid_base.specs.declared.fault.PacketFault.{PacketFault}
use Rattle.vid_base.specs.declared.fault.PacketFault.TheVariants.{Ended}
use Rattle.vid_base.specs.Reading.{◌>>=◌}
use Rattle.thr_modes.specs.Modes.{rank_in}

-- bits 1 that were read before count too
abbrev pub behind_ones : ℕ → Result (ℕ × List Bool) PacketFault → Result (ℕ × List Bool) PacketFault
behind_ones n read = read >>= (λ further. Ok (n + further.0, further.1))

regroup : (n : ℕ) (read : Result (ℕ × List Bool) PacketFault) → behind_ones (n + 1) read ≡ behind_ones n (read >>= (λ further. Ok (suc further.0, further.1)))
regroup n (Ok y) = let e : (n + 1) + y.0 ≡ n + suc y.0 = omega arith in ap (λ k. Ok (k, y.1)) e
regroup n (Err e) = refl

-- a bit 1
pub rank_one : (n : ℕ) (bits left : List Bool) → n < 7 → bits ≡ true ∷ left → behind_ones (n + 1) (rank_in (7 - (n + 1)) left) ≡ behind_ones n (rank_in (7 - n) bits)
unfolding rank_in
rank_one n bits left h e = let k : 7 - n ≡ suc (7 - (n + 1)) = omega arith in rw (k, e) (regroup n (rank_in (7 - (n + 1)) left))

-- a bit 0
pub rank_zero : (n : ℕ) (bits left : List Bool) → n < 7 → bits ≡ false ∷ left → behind_ones n (rank_in (7 - n) bits) ≡ Ok (n, left)
unfolding rank_in
rank_zero n bits left h e = let k : 7 - n ≡ suc (7 - (n + 1)) = omega arith in let same : n + 0 ≡ n = omega arith in rw (k, e) (ap (λ r. Ok (r, left)) same)

-- no bit
pub rank_fault : (n : ℕ) (bits : List Bool) → n < 7 → bits ≡ [] → behind_ones n (rank_in (7 - n) bits) ≡ Err Ended
unfolding rank_in
rank_fault n bits h e = let k : 7 - n ≡ suc (7 - (n + 1)) = omega arith in rw (k, e) refl

-- seven bits 1
pub rank_seven : (n : ℕ) (bits : List Bool) → n ≡ 7 → behind_ones n (rank_in (7 - n) bits) ≡ Ok (7, bits)
unfolding rank_in
rank_seven n bits e = rw e refl
