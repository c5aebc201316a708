-- What was read of a setup header, whatever it can say is read back, and the setup that is made here is such. The laws cite these.
use Rattle.std.proofs.Common.{◌≡◌, ℕ, ◌^◌, ◌<◌, Bool, true, nat_eq, nat_lt, List, [], ◌∷◌, ◌++◌, drop, Ok, refl, arith, All}
use Rattle.std.specs.List.{starts_with, list_all}
use Rattle.std.proofs.Math.Dec.{ltb}
use Rattle.std.proofs.lemmas.Bool.{ltb-true}
use Rattle.std.specs.Cmp.{first_so, second_so}
use Rattle.std.proofs.lemmas.List.Elements.{All-nil, All-cons}
use Rattle.vid_base.specs.declared.fault.PacketFault.TheVariants.{NotSetup}
use Rattle.vid_base.specs.Bits.{bits_of}
use Rattle.vid_base.specs.Fronts.{ReadsFront}
use Rattle.vid_base.specs.Reading.{◌>>=◌}
use Rattle.vid_base.proofs.FrontLemmas.{front-then, front-value}
use Rattle.vid_base.proofs.SoundLemmas.{value-is, went_on, where_met}
use Rattle.thr_quant.specs.declared.ranges.Range.{Range}
use Rattle.thr_quant.specs.Limits.{IsLimits, limits_of}
use Rattle.thr_quant.specs.Ranges.{Ranges, AreWhole, NameMatrices}
use Rattle.thr_quant.specs.Ramps.{AreOfPlanes, AreScales, IsBaseMatrix, IsRamps, ramps_of}
use Rattle.thr_quant.proofs.SoundLemmas.{limits_of-sound}
use Rattle.thr_quant.proofs.SoundRangesLemmas.{ramps_of-sound}
use Rattle.thr_quant.proofs.WholeLemmas.{limits_back, ramps_back}
use Rattle.thr_quant.proofs.FrontLemmas.{front-limits, front-ramps}
use Rattle.thr_huff.specs.Trees.{forest_at}
use Rattle.thr_huff.proofs.ForestLemmas.{forest_at-forest_bits}
use Rattle.thr_huff.proofs.SoundLemmas.{forest-sound}
use Rattle.thr_huff.proofs.FrontLemmas.{front-forest}
use Rattle.thr_setup.specs.Setup.{Contents, IsSetup, fields_of, packet_of, setup_name, setup_of}
use Rattle.thr_setup.specs.Import.{even_scales, import_limits, import_matrix, import_ramps, imported, one_range}
use Rattle.thr_setup.proofs.ImportLemmas.{is_import_forest}
use Rattle.thr_setup.proofs.PacketLemmas.{fields_of-fields_bits, setup_of-packet}

-- what the fields of a header say
fields-sound : (bits : List Bool) (y : Contents × List Bool) → fields_of bits ≡ Ok y → IsSetup y.0
unfolding fields_of
fields-sound bits y e =
    let limits = went_on (limits_of bits) _ y e in
    let ramps = went_on (ramps_of limits.0.1) _ y limits.2 in
    let forest = went_on (forest_at ramps.0.1) _ y ramps.2 in
    let contents : Contents = record { limits = limits.0.0; ramps = ramps.0.0; forest = forest.0.0 } in
    let same : contents ≡ y.0 = value-is contents forest.0.1 y forest.2 in
    rw (← same) (record {
      limits = limits_of-sound bits limits.0 limits.1;
      ramps = ramps_of-sound limits.0.1 ramps.0 ramps.1;
      forest = forest-sound ramps.0.1 forest.0 forest.1;
    })

-- what a packet says
pub setup-sound : (bytes : List ℕ) (s : Contents) → setup_of bytes ≡ Ok s → IsSetup s
unfolding setup_of
setup-sound bytes s e =
    let named = where_met (starts_with nat_eq bytes setup_name) NotSetup (fields_of (bits_of (drop 7 bytes)) >>= (λ fields. Ok fields.0)) s e in
    let fields = went_on (fields_of (bits_of (drop 7 bytes))) _ s named.1 in
    let same : fields.0.0 ≡ s = cc in
    rw (← same) (fields-sound (bits_of (drop 7 bytes)) fields.0 fields.1)

-- whatever a header can say is read back
pub setup_back : (s : Contents) (rest : List ℕ) → IsSetup s → setup_of (packet_of s ++ rest) ≡ Ok s
setup_back s rest is =
    setup_of-packet s rest
    (λ after. fields_of-fields_bits s after (λ more. limits_back s.limits more is.limits) (λ more. ramps_back s.ramps more is.ramps) (λ more. forest_at-forest_bits s.forest more is.forest))

-- the fields are read from the front
pub front-fields : ReadsFront fields_of
unfolding fields_of
front-fields =
    front-then limits_of _ front-limits (λ limits. front-then ramps_of _ front-ramps (λ ramps. front-then forest_at _ front-forest (λ forest. front-value _)))

-- numbers that a look at each shows to be small
small : (most : ℕ) (numbers : List ℕ) → list_all (λ v. nat_lt v most) numbers ≡ true → All (λ v. v < most) numbers
small most [] e = All-nil _
small most (v ∷ numbers) e =
    All-cons (λ u. u < most) v numbers (ltb-true v most (first_so (ltb v most) (list_all (λ u. nat_lt u most) numbers) e)) (small most numbers (second_so (ltb v most) (list_all (λ u. nat_lt u most) numbers) e))

import-limits : IsLimits import_limits
unfolding import_limits
import-limits = record { count = refl; small = small 128 import_limits refl }

import-scales : (step : ℕ) → list_all (λ v. nat_lt v (2 ^ 16)) (even_scales step) ≡ true → AreScales (even_scales step)
unfolding even_scales
import-scales step e = record { count = refl; small = small (2 ^ 16) (even_scales step) e }

import-ac : list_all (λ v. nat_lt v (2 ^ 16)) (even_scales 8) ≡ true
unfolding even_scales
import-ac = refl

import-dc : list_all (λ v. nat_lt v (2 ^ 16)) (even_scales 3) ≡ true
unfolding even_scales
import-dc = refl

import-base : IsBaseMatrix import_matrix
unfolding import_matrix
import-base = record { count = refl; bytes = small (2 ^ 8) import_matrix refl }

import-whole : AreWhole one_range.list
import-whole = record { sizes = All-cons (λ (range : Range). 0 < range.size) (record { size = 63; next = 0 }) [] (omega arith) (All-nil _); sum = refl }

import-named : NameMatrices 1 one_range
import-named = record { start = omega arith; next = All-cons (λ (range : Range). range.next < 1) (record { size = 63; next = 0 }) [] (omega arith) (All-nil _) }

-- the same for all planes
thrice : (P : Ranges → Type 0) (r : Ranges) → P r → All P (r ∷ r ∷ r ∷ [])
thrice P r h = All-cons P r (r ∷ r ∷ []) h (All-cons P r (r ∷ []) h (All-cons P r [] h (All-nil P)))

import-planes : AreOfPlanes 1 (one_range ∷ one_range ∷ one_range ∷ [])
import-planes = record {
  planes = refl;
  whole = thrice (λ ranges. AreWhole ranges.list) one_range import-whole;
  named = thrice (NameMatrices 1) one_range import-named;
}

import-ramps : IsRamps import_ramps
import-ramps = record {
  ac = import-scales 8 import-ac;
  dc = import-scales 3 import-dc;
  count = (omega arith, omega arith);
  matrices = All-cons IsBaseMatrix import_matrix [] import-base (All-nil _);
  intra = import-planes;
  inter = import-planes;
}

-- the setup that is made here
pub import-sound : IsSetup imported
import-sound = record { limits = import-limits; ramps = import-ramps; forest = is_import_forest imported.forest refl }
