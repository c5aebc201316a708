-- Widths of fields: a number of few bits is small. Readers and writers of numbers cite these.
use Rattle.std.proofs.Common.{ℕ, List, All, ◌-◌, ◌^◌, ◌<◌, ◌≤◌, arith}
use Rattle.std.proofs.Math.Pow.{pow_mono}

-- a size less 1 of so many bits as the steps that are left less 1 have
pub size-lt : (v width left : ℕ) → v < 2 ^ width → left ≤ 63 → ((k : ℕ) → left - 1 < 2 ^ k → width ≤ k) → v < 64
size-lt v width left h few least =
    let narrow : width ≤ 6 = least 6 (omega arith) in
    omega (arith, pow_mono narrow)

-- numbers of some width are numbers of a greater width
pub all-wider : (narrow wide : ℕ) (numbers : List ℕ) → narrow ≤ wide → All (λ v. v < 2 ^ narrow) numbers → All (λ v. v < 2 ^ wide) numbers
all-wider narrow wide numbers h small = λ k d there. omega (arith, small k d there, pow_mono h)
