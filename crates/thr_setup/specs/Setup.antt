-- The setup header: which packets are one, what it says, and which bits are written for it (Theora I, 6.4.5).
use Rattle.std.specs.Prelude.{◌≡◌, ℕ, Bool, true, List, [], ◌∷◌, ◌++◌, length, drop, Result, Ok, Err, IsOk, codes, nat_eq, if◌then◌else◌}
use Rattle.std.specs.List.{starts_with}
use Rattle.vid_base.specs.declared.fault.PacketFault.{PacketFault}
use Rattle.vid_base.specs.declared.fault.PacketFault.TheVariants.{NotSetup}
use Rattle.vid_base.specs.Bits.{bits_of, number, zeros, to_byte}
use Rattle.vid_base.specs.Reading.{◌>>=◌}
use Rattle.thr_quant.specs.Limits.{IsLimits, limits_of, limits_bits}
use Rattle.thr_quant.specs.Ramps.{IsRamps, Ramps, ramps_of, ramps_bits}
use Rattle.thr_huff.specs.CodeTree.{CodeTree}
use Rattle.thr_huff.specs.Trees.{IsForest, forest_at, forest_bits}
use Rattle.thr_setup.specs.declared.setup.Setup.{Setup}

-- what a setup header says: the limits of the loop filter, the quantisers, and 80 trees
pub record Contents : Type 0 where
  pub limits : List ℕ
  pub ramps : Ramps
  pub forest : List CodeTree

-- what a setup header can say
pub record IsSetup (contents : Contents) : Type 0 where
  pub limits : IsLimits contents.limits
  pub ramps : IsRamps contents.ramps
  pub forest : IsForest contents.forest

-- what a setup says
abbrev pub contents : Setup → Contents
contents setup = record { limits = setup.limits.of; ramps = setup.ramps; forest = setup.forest }

-- the first bytes of a setup header: its type, and the codec's name
abbrev pub setup_name : List ℕ
setup_name = 130 ∷ codes "theora"

-- the fields in the order in which they are read
unfoldable pub fields_of : List Bool → Result (Contents × List Bool) PacketFault
fields_of bits = do
  limits ← limits_of bits
  ramps ← ramps_of limits.1
  forest ← forest_at ramps.1
  Ok (record { limits = limits.0; ramps = ramps.0; forest = forest.0 }, forest.1)

-- what a packet says, or its first fault; what stands behind the fields does not count
unfoldable pub setup_of : List ℕ → Result Contents PacketFault
setup_of bytes =
    if starts_with nat_eq bytes setup_name
    then (fields_of (bits_of (drop 7 bytes)) >>= (λ fields. Ok fields.0))
    else Err NotSetup

-- a packet has the name, and behind it whole limits: no memory is taken before
abbrev pub HasLimits : List ℕ → Type 0
HasLimits bytes = (starts_with nat_eq bytes setup_name ≡ true) × IsOk (limits_of (bits_of (drop 7 bytes)))

-- the fields as they are written
unfoldable pub fields_bits : Contents → List Bool
fields_bits contents = limits_bits contents.limits ++ ramps_bits contents.ramps ++ forest_bits contents.forest

-- bits, and 0 bits up to a whole byte
abbrev pub filled : List Bool → List Bool
filled bits = bits ++ zeros (to_byte (length bits))

-- bits as bytes, eight at a time (Theora I, 5.2)
unfoldable pub bytes_of : List Bool → List ℕ
bytes_of (a ∷ b ∷ c ∷ d ∷ e ∷ f ∷ g ∷ h ∷ bits) = number (a ∷ b ∷ c ∷ d ∷ e ∷ f ∷ g ∷ h ∷ []) ∷ bytes_of bits
bytes_of bits = []

-- a packet as it is written: the name, and the fields filled to a byte
unfoldable pub packet_of : Contents → List ℕ
packet_of contents = setup_name ++ bytes_of (filled (fields_bits contents))
