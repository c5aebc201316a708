-- What a reading that came to a value has read: each part in turn, and numbers and items that are as all that are read. Crates above
-- show by these that what was read of a packet is sound.
use Rattle.std.proofs.Common.{inl, inr, ◌≡◌, ℕ, zero, suc, ◌^◌, ◌<◌, Bool, true, false, cond, List, [], ◌∷◌, length, length-take, take, All, Result, Ok, Err, refl, ap, subst, arith}
use Rattle.std.proofs.lemmas.Bool.{cases_lt}
use Rattle.std.proofs.lemmas.List.Elements.{All-nil, All-cons}
use Rattle.vid_base.specs.declared.fault.PacketFault.{PacketFault}
use Rattle.vid_base.specs.Bits.{number}
use Rattle.vid_base.specs.Items.{items}
use Rattle.vid_base.specs.Reading.{field, ◌>>=◌}
use Rattle.vid_base.proofs.NumberLemmas.{number-lt, take-none, taken-enough}

-- what a reading is that goes on to a value
pub went_on : {A B : Type 0} (read : Result A PacketFault) (next : A → Result B PacketFault) (y : B) → (read >>= next) ≡ Ok y → (x : A) × (read ≡ Ok x) × (next x ≡ Ok y)
went_on (Ok x) next y e = (x, refl, e)
went_on (Err fault) next y e = cc

-- the value of a reading that ends with it
pub value-is : {A : Type 0} (v : A) (bits : List Bool) (y : A × List Bool) → ◌≡◌ {A = Result (A × List Bool) PacketFault} (Ok (v, bits)) (Ok y) → v ≡ y.0
value-is {A} v bits y e = let pair : ◌≡◌ {A = A × List Bool} (v, bits) y = cc in ap (λ p. p.0) pair

-- a number of n bits
pub field-small : (n : ℕ) (bits : List Bool) (y : ℕ × List Bool) → field n bits ≡ Ok y → y.0 < 2 ^ n
unfolding number
field-small n bits y e = elim (cases_lt (length bits) n) [
  | inl few ↦ let none = take-none n bits few in let wrong = rw none at e in cc
  | inr enough ↦
      let some = taken-enough n bits enough in
      let found = rw some at e in
      let same : number (take n bits) ≡ y.0 = cc in
      let count : length (take n bits) ≡ n = omega (arith, length-take n bits) in
      rw (← same) (subst (λ m. number (take n bits) < 2 ^ m) count (number-lt (take n bits)))
]

-- n items, each of which has what all that are read have
pub items-sound : {A : Type 0} (P : A → Type 0) (item : List Bool → Result (A × List Bool) PacketFault) → ((bits : List Bool) (y : A × List Bool) → item bits ≡ Ok y → P y.0)
    → (n : ℕ) (bits : List Bool) (y : List A × List Bool) → items item n bits ≡ Ok y → (length y.0 ≡ n) × All P y.0
unfolding items
items-sound {A} P item each zero bits y e =
    let same : [] ≡ y.0 = cc in rw (← same) (refl, All-nil P)
items-sound P item each (suc n) bits y e =
    let first = went_on (item bits) _ y e in
    let others = went_on (items item n first.0.1) _ y first.2 in
    let same : first.0.0 ∷ others.0.0 ≡ y.0 = cc in
    let rest = items-sound P item each n first.0.1 others.0 others.1 in
    rw (← same) (ap suc rest.0, All-cons P first.0.0 others.0.0 (each bits first.0 first.1) rest.1)

-- what was read behind a test that is not met
pub unless_met : {A : Type 0} (test : Bool) (fault : PacketFault) (read : Result A PacketFault) (y : A) → cond test (Err fault) read ≡ Ok y → (test ≡ false) × (read ≡ Ok y)
unless_met true fault read y e = cc
unless_met false fault read y e = (refl, e)

-- what was read behind a test that is met
pub where_met : {A : Type 0} (test : Bool) (fault : PacketFault) (read : Result A PacketFault) (y : A) → cond test read (Err fault) ≡ Ok y → (test ≡ true) × (read ≡ Ok y)
where_met true fault read y e = (refl, e)
where_met false fault read y e = cc
