-- Motion vectors, and how they are coded (Theora I, 7.5.1).
use Rattle.std.specs.Prelude.{ℕ, ℤ, pos, negsuc, neg_ℤ, ◌≤ℤ◌, ◌+◌, ◌==◌, Bool, List, Result, Ok, if◌then◌else◌}
use Rattle.vid_base.specs.declared.shape.Vector.{Vector}
use Rattle.vid_base.specs.declared.fault.PacketFault.{PacketFault}
use Rattle.vid_base.specs.Reading.{field, one_bit, ◌>>=◌}
use Rattle.thr_modes.specs.Forms.{VectorForm, Prefixed, Fixed}

-- a motion vector: how far to the right and how far upwards
pub record Offset : Type 0 where
  pub x : ℤ
  pub y : ℤ

-- what a vector of the code says
unfoldable pub offset_of : Vector → Offset
offset_of v = record { x = v.x; y = v.y }

-- a component is no larger than 31
abbrev pub IsComponent : ℤ → Type 0
IsComponent component = (negsuc 30 ≤ℤ component) × (component ≤ℤ pos 31)

-- no motion
abbrev pub still : Offset
still = record { x = pos 0; y = pos 0 }

-- a size with its sign
unfoldable pub signed : Bool → ℕ → ℤ
signed negative size = if negative then neg_ℤ (pos size) else pos size

-- a component whose size is counted from the least one by so many bits; then a bit tells whether it is negative
unfoldable pub sized : ℕ → ℕ → List Bool → Result (ℤ × List Bool) PacketFault
sized least width bits = field width bits >>= (λ more. one_bit more.1 >>= (λ negative. Ok (signed negative.0 (least + more.0), negative.1)))

-- a component under MVMODE 0: 3 bits say what it is or how its size goes on
unfoldable pub prefixed : List Bool → Result (ℤ × List Bool) PacketFault
prefixed bits = field 3 bits >>= (λ prefix.
    if prefix.0 == 0 then Ok (pos 0, prefix.1)
    else if prefix.0 == 1 then Ok (pos 1, prefix.1)
    else if prefix.0 == 2 then Ok (negsuc 0, prefix.1)
    else if prefix.0 == 3 then sized 2 0 prefix.1
    else if prefix.0 == 4 then sized 3 0 prefix.1
    else if prefix.0 == 5 then sized 4 2 prefix.1
    else if prefix.0 == 6 then sized 8 3 prefix.1
    else sized 16 4 prefix.1)

-- a component: under MVMODE 1 its size has 5 bits
unfoldable pub component : VectorForm → List Bool → Result (ℤ × List Bool) PacketFault
component Prefixed bits = prefixed bits
component Fixed bits = sized 0 5 bits

-- a vector: its component to the right, and then the one upwards
unfoldable pub vector_in : VectorForm → List Bool → Result (Offset × List Bool) PacketFault
vector_in coding bits = component coding bits >>= (λ x. component coding x.1 >>= (λ y. Ok (record { x = x.0; y = y.0 }, y.1)))
