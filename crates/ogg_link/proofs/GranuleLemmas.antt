-- A granule position fits 128 bits. `granule` and `Walk::settle` cite these.
use Rattle.std.proofs.Common.{◌≡◌, ◌⊎◌, ℕ, ◌+◌, ◌-◌, ◌*◌, ◌^◌, ◌/◌, ◌%◌, ◌<◌, ◌≤◌, true, Some, None, Ok, ◌∙◌, refl, arith, ap, inl, inr, le-ltb, eq-eqb, if◌then◌else◌}
use Rattle.std.proofs.Math.Pow.{pow_mono}
use Rattle.std.proofs.Math.Nat.{mul-le-mul_left, mod-eq_of_lt}
use Rattle.std.proofs.lemmas.Nat.{div-mul-add, mod-mul-add}
use Rattle.ogg_link.specs.Track.{granule_of}
use Rattle.ogg_link.specs.declared.state.State.{State}
use Rattle.ogg_link.specs.Granules.{IsLater, last_frame, against_base, against_key, settled}

pub unit_small : (s : ℕ) → s ≤ 31 → 2 ^ s ≤ 2 ^ 31
unit_small s h = pow_mono h

pub unit_whole : (s : ℕ) → s ≤ 31 → 1 * 2 ^ s % 2 ^ 128 ≡ 2 ^ s
unit_whole s h = let p : 2 ^ s ≤ 2 ^ 31 = unit_small s h in let q : 1 * 2 ^ s < 2 ^ 128 = omega arith in let r : 1 * 2 ^ s ≡ 2 ^ s = omega arith in rw (mod-eq_of_lt q) r

pub product_small : (a s : ℕ) → a ≤ 2 ^ 65 → s ≤ 31 → a * 2 ^ s ≤ 2 ^ 96
product_small a s h k = let p : 2 ^ s ≤ 2 ^ 31 = unit_small s k in let q : a * 2 ^ s ≤ a * 2 ^ 31 = mul-le-mul_left a p in omega arith

-- the first position tells the base that it was written with
pub base_told : (state : State) (base shift key : ℕ) → state.granule ≡ granule_of base shift key (last_frame state) → last_frame state - key < 2 ^ shift
    → against_base state shift key None ≡ Ok (record state { base = Some base })
base_told state base shift key position near =
    let over : ℕ = last_frame state - key in
    let q : state.granule / 2 ^ shift ≡ base + key = rw position (div-mul-add (base + key) (2 ^ shift) over near) in
    let m : state.granule % 2 ^ shift ≡ over = rw position (mod-mul-add (base + key) (2 ^ shift) over near) in
    let back : base + key - key ≡ base = omega arith in
    rw (q, m, le-ltb (base + key) key (omega arith), eq-eqb over over refl, back) refl

-- a page on which a frame ends has the position of the formula, and the frame is near its key frame: no fault, and the base is known
pub settled_right : (state : State) (base shift key : ℕ) → (state.base ≡ None) ⊎ (state.base ≡ Some base) → state.settles ≡ true → state.progress.last_key ≡ Some key
    → state.granule ≡ granule_of base shift key (last_frame state) → last_frame state - key < 2 ^ shift → settled state shift ≡ Ok (record state { base = Some base })
unfolding settled
settled_right state base shift key known settles last position near =
    ap (λ b. if b then against_key state shift state.progress.last_key else Ok state) settles ∙ ap (against_key state shift) last ∙ elim known [
      | inl none ↦ ap (against_base state shift key) none ∙ base_told state base shift key position near
      | inr some ↦ ap (against_base state shift key) some ∙ rw (eq-eqb state.granule _ position) (λ i. Ok (record state { base = some i }))
    ]

-- the key frame and the frames since it are told by a position
pub told_back : (base shift key frame position : ℕ) → position ≡ granule_of base shift key frame → frame - key < 2 ^ shift → (position / 2 ^ shift - base ≡ key) × (position % 2 ^ shift ≡ frame - key)
told_back base shift key frame position is near =
    let over : ℕ = frame - key in
    let q : position / 2 ^ shift ≡ base + key = rw is (div-mul-add (base + key) (2 ^ shift) over near) in
    (omega (arith, q), rw is (mod-mul-add (base + key) (2 ^ shift) over near))

-- later frames have greater positions
pub positions_rise : (base shift key frame later_key later : ℕ) → key ≤ frame → frame - key < 2 ^ shift → IsLater key frame later_key later → granule_of base shift key frame < granule_of base shift later_key later
positions_rise base shift key frame later_key later h near is = elim is.of_key [
  | inl same ↦ rw same (omega (arith, is.behind))
  | inr behind ↦
      let unit : ℕ = 2 ^ shift in
      let more : unit * (base + key + 1) ≤ unit * (base + later_key) = mul-le-mul_left unit (omega arith) in
      omega (arith, more)
]
