-- Reading only the first bits of what is there: the same, or Ended (own).
use Rattle.std.specs.Prelude.{◌≡◌, ◌⊎◌, ℕ, ◌+◌, ◌-◌, ◌<◌, ◌≤◌, ⊤, Bool, List, ◌++◌, length, take, Result, Ok, Err}
use Rattle.vid_base.specs.declared.fault.PacketFault.{PacketFault}
use Rattle.vid_base.specs.declared.fault.PacketFault.TheVariants.{Ended}
use Rattle.vid_base.specs.Reading.{◌>>=◌}

-- what a reading leaves is shorter than these bits, where it reads a value at all
abbrev pub LeavesLess : {A : Type 0} → Result (A × List Bool) PacketFault → List Bool → Type 0
LeavesLess (Ok read) more = length read.1 < length more
LeavesLess (Err fault) more = ⊤

-- what was read of the first bits stands to what is read where `more` follow them: the same value, and `more` behind what was
-- left; or the same fault; or Ended, since bits of `more` were wanted
abbrev pub Continues : {A : Type 0} → Result (A × List Bool) PacketFault → Result (A × List Bool) PacketFault → List Bool → Type 0
Continues (Ok read) whole more = whole ≡ Ok (read.0, read.1 ++ more)
Continues (Err fault) whole more = (whole ≡ Err fault) ⊎ ((fault ≡ Ended) × LeavesLess whole more)

-- a reading takes its bits from the front, and of the first bits alone it reads the same, or is Ended
pub record ReadsFront {A : Type 0} (read : List Bool → Result (A × List Bool) PacketFault) : Type 0 where
  pub rest : (v : A) (bits left : List Bool) → read bits ≡ Ok (v, left) → length left ≤ length bits
  pub front : (bits more : List Bool) → Continues (read bits) (read (bits ++ more)) more

-- one reading, and what is read behind it
abbrev pub chained : {A B : Type 0} → (List Bool → Result (A × List Bool) PacketFault) → (A × List Bool → Result (B × List Bool) PacketFault) → List Bool → Result (B × List Bool) PacketFault
chained read next bits = read bits >>= next

-- bits that are read as a value and leave `left`, cut behind the first k of them: the same value where those reach so far, and
-- Ended where they do not
pub record ReadsCut {A : Type 0} (read : List Bool → Result (A × List Bool) PacketFault) : Type 0 where
  pub reaches : (v : A) (bits left : List Bool) (k : ℕ) → read bits ≡ Ok (v, left) → k ≤ length bits → length bits ≤ k + length left
      → read (take k bits) ≡ Ok (v, take (k + length left - length bits) left)
  pub ends : (v : A) (bits left : List Bool) (k : ℕ) → read bits ≡ Ok (v, left) → k + length left < length bits → read (take k bits) ≡ Err Ended
