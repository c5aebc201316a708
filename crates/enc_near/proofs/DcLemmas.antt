-- The DC values of a frame of which all blocks are coded, after they were kept near their predictors. The frame cites these.
use Rattle.std.proofs.Common.{◌≡◌, ◌∙◌, ℕ, suc, ℤ, pos, ◌<◌, ◌≤◌, Bool, true, false, List, [], ◌∷◌, ◌++◌, length, get_or, set, take, replicate, Option, Some, None, refl, sym, ap, subst, inl, inr, arith}
use Rattle.std.proofs.lemmas.Bool.{cases_lt}
use Rattle.std.proofs.lemmas.List.{ext_get_or, get_or-map, get_or-replicate, get_or-set_same, get_or_past, length-map, set-get_or}
use Rattle.std.proofs.lemmas.Nat.{div-add-mod', mul-add-lt}
use Rattle.std.proofs.lemmas.Option.{get_or_from_slice_get}
use Rattle.vid_base.specs.declared.shape.Shape.{Shape}
use Rattle.vid_geom.specs.declared.block.Block.{Block}
use Rattle.vid_geom.specs.CodedOrder.{IsBlock, block_columns, block_rows, order_of, place_of, plane_blocks}
use Rattle.vid_geom.proofs.OrderLemmas.{at_place, place_below}
use Rattle.thr_dc.specs.Blocks.{Coded}
use Rattle.thr_dc.specs.Frames.{ChangesDc, dc_at, plane_of, raster_block, raster_place, with_dc, with_planes}
use Rattle.thr_dc.specs.Prediction.{by_new, changed, limited, nearest, predicted}
use Rattle.thr_dc.proofs.FrameLemmas.{at_raster_place, standing}
use Rattle.thr_dc.proofs.OrderedLemmas.{by_new_at}
use Rattle.thr_dc.proofs.PlaneLemmas.{block_in_plane, plane_long}
use Rattle.thr_dc.proofs.WalkLemmas.{raster_is_block}
use Rattle.thr_dct.specs.Line.{entry}

-- all blocks are coded
pub all_coded : (n place : ℕ) (flags : List Bool) → flags ≡ replicate n true → place < n → get_or flags place false ≡ true
all_coded n place flags all within = ap (λ (l : List Bool). get_or l place false) all ∙ get_or-replicate n place true false within

-- a coded block
dc_is : (flags : List Bool) (kinds : List ℕ) (values : List (List ℤ)) (place : ℕ) → get_or flags place false ≡ true
    → dc_at flags kinds values place ≡ Some (record { kind = get_or kinds place 0; value = entry (get_or values place []) 0 })
unfolding dc_at
dc_is flags kinds values place coded = rw coded refl

-- the values of a block whose DC value changed
pub values_at : (f : ℕ → List (Option Coded) → List (Option Coded)) (s : Shape) (flags : List Bool) (kinds : List ℕ) (values : List (List ℤ)) (b : Block) → IsBlock s b
    → get_or (with_planes f s flags kinds values) (place_of s b) [] ≡ with_dc (get_or (f (block_columns s b.pli) (plane_of s flags kinds values b.pli)) (raster_place s b) None) (get_or values (place_of s b) [])
unfolding with_planes
values_at f s flags kinds values b is =
    let one : Block → List ℤ = λ b. with_dc (get_or (f (block_columns s b.pli) (plane_of s flags kinds values b.pli)) (raster_place s b) None) (get_or values (place_of s b) []) in
    get_or-map one (order_of s) (place_of s b) b [] (place_below s b is) ∙ ap one (get_or_from_slice_get (order_of s) (place_of s b) b b (at_place s b is))

with_dc_set : (dc : Option Coded) (values : List ℤ) → with_dc dc values ≡ set values 0 (entry (with_dc dc values) 0)
with_dc_set None values = sym (set-get_or values 0 (pos 0))
with_dc_set (Some dc) [] = refl
with_dc_set (Some dc) (v ∷ values) = refl

length-planes : (f : ℕ → List (Option Coded) → List (Option Coded)) (s : Shape) (flags : List Bool) (kinds : List ℕ) (values : List (List ℤ)) → length (with_planes f s flags kinds values) ≡ length (order_of s)
unfolding with_planes
length-planes f s flags kinds values = length-map (order_of s) (λ b. with_dc (get_or (f (block_columns s b.pli) (plane_of s flags kinds values b.pli)) (raster_place s b) None) (get_or values (place_of s b) []))

-- only DC values change
pub planes_change : (f : ℕ → List (Option Coded) → List (Option Coded)) (s : Shape) (flags : List Bool) (kinds : List ℕ) (values : List (List ℤ)) → flags ≡ replicate (length (order_of s)) true → length values ≡ length (order_of s)
    → ChangesDc flags values (with_planes f s flags kinds values)
planes_change f s flags kinds values all long = record { long = sized ∙ sym long; only_dc = only; uncoded = none_uncoded }
  where
    new : List (List ℤ)
    new = with_planes f s flags kinds values

    n : ℕ
    n = length (order_of s)

    sized : length new ≡ n
    sized = length-planes f s flags kinds values

    nothing : Block
    nothing = record { pli = 0; col = 0; row = 0 }

    past : (place : ℕ) → n ≤ place → get_or new place [] ≡ get_or values place []
    past place h = get_or_past new place [] (omega (arith, sized)) ∙ sym (get_or_past values place [] (omega (arith, long)))

    only : (place : ℕ) → get_or new place [] ≡ set (get_or values place []) 0 (entry (get_or new place []) 0)
    only place = elim (cases_lt place n) as (λ _. get_or new place [] ≡ set (get_or values place []) 0 (entry (get_or new place []) 0)) [
      | inl within ↦ (let stands = standing s place nothing within in
          let b = get_or (order_of s) place nothing in
          let dc = get_or (f (block_columns s b.pli) (plane_of s flags kinds values b.pli)) (raster_place s b) None in
          let P : ℕ → Type 0 = λ k. get_or new k [] ≡ set (get_or values k []) 0 (entry (get_or new k []) 0) in
          subst P stands.at (rw (values_at f s flags kinds values b stands.is) (with_dc_set dc (get_or values (place_of s b) []))))
      | inr h ↦ rw (past place h) (sym (set-get_or (get_or values place []) 0 (pos 0)))
    ]

    none_uncoded : (place : ℕ) → get_or flags place false ≡ false → get_or new place [] ≡ get_or values place []
    none_uncoded place off = elim (cases_lt place n) as (λ _. get_or new place [] ≡ get_or values place []) [
      | inl within ↦ (let yes = all_coded n place flags all within in cc)
      | inr h ↦ past place h
    ]

length-by_new : (f : ℤ → ℤ → ℤ) (w : ℕ) (before blocks : List (Option Coded)) → length (by_new f w before blocks) ≡ length blocks
unfolding by_new
length-by_new f w before [] = refl
length-by_new f w before (block ∷ blocks) = ap suc (length-by_new f w (before ++ changed f w before block ∷ []) blocks)

changed_is : (f : ℤ → ℤ → ℤ) (w : ℕ) (before : List (Option Coded)) (dc : Coded) → changed f w before (Some dc) ≡ Some (record { kind = dc.kind; value = f dc.value (predicted w before dc.kind) })
unfolding changed
changed_is f w before dc = refl

-- what was kept of a frame whose blocks are all coded
pub record AreKept (s : Shape) (flags : List Bool) (kinds : List ℕ) (old : List (List ℤ)) : Type 0 where
  pub all : flags ≡ replicate (length (order_of s)) true
  pub full : (place : ℕ) → place < length (order_of s) → 0 < length (get_or old place [])

-- the DC value that a block is given, by the values so far
kept_value : Shape → List Bool → List ℕ → List (List ℤ) → Block → ℤ
kept_value s flags kinds old b =
    let w = block_columns s b.pli in
    nearest (entry (get_or old (place_of s b) []) 0) (predicted w (take (raster_place s b) (limited w (plane_of s flags kinds old b.pli))) (get_or kinds (place_of s b) 0))

raster_within : (s : Shape) (b : Block) → IsBlock s b → raster_place s b < plane_blocks s b.pli
unfolding raster_place
raster_within s b is = mul-add-lt b.row (block_columns s b.pli) b.col (block_rows s b.pli) is.2 is.1

kept_dc : (s : Shape) (flags : List Bool) (kinds : List ℕ) (old : List (List ℤ)) (b : Block) → IsBlock s b → AreKept s flags kinds old
    → get_or (limited (block_columns s b.pli) (plane_of s flags kinds old b.pli)) (raster_place s b) None ≡ Some (record { kind = get_or kinds (place_of s b) 0; value = kept_value s flags kinds old b })
unfolding kept_value
kept_dc s flags kinds old b is kept =
    let w = block_columns s b.pli in
    let plane = plane_of s flags kinds old b.pli in
    let before = take (raster_place s b) (limited w plane) in
    by_new_at nearest w plane (raster_place s b) (omega (arith, plane_long s flags kinds old b.pli, raster_within s b is))
    ∙ ap (changed nearest w before) (at_raster_place s flags kinds old b is ∙ dc_is flags kinds old (place_of s b) (all_coded (length (order_of s)) (place_of s b) flags kept.all (place_below s b is)))
    ∙ changed_is nearest w before (record { kind = get_or kinds (place_of s b) 0; value = entry (get_or old (place_of s b) []) 0 })

kept_entry : (s : Shape) (flags : List Bool) (kinds : List ℕ) (old : List (List ℤ)) (b : Block) → IsBlock s b → AreKept s flags kinds old
    → entry (get_or (with_planes limited s flags kinds old) (place_of s b) []) 0 ≡ kept_value s flags kinds old b
kept_entry s flags kinds old b is kept =
    ap (λ (l : List ℤ). entry l 0) (values_at limited s flags kinds old b is ∙ ap (λ (dc : Option Coded). with_dc dc (get_or old (place_of s b) [])) (kept_dc s flags kinds old b is kept))
    ∙ get_or-set_same (get_or old (place_of s b) []) 0 (kept_value s flags kinds old b) (pos 0) (kept.full (place_of s b) (place_below s b is))

-- the block at a place of a plane is the one that was kept there
kept_block : (s : Shape) (flags : List Bool) (kinds : List ℕ) (old : List (List ℤ)) (b : Block) → IsBlock s b → AreKept s flags kinds old
    → dc_at flags kinds (with_planes limited s flags kinds old) (place_of s b) ≡ get_or (limited (block_columns s b.pli) (plane_of s flags kinds old b.pli)) (raster_place s b) None
kept_block s flags kinds old b is kept =
    dc_is flags kinds (with_planes limited s flags kinds old) (place_of s b) (all_coded (length (order_of s)) (place_of s b) flags kept.all (place_below s b is))
    ∙ ap (λ (v : ℤ). Some (record { kind = get_or kinds (place_of s b) 0; value = v })) (kept_entry s flags kinds old b is kept)
    ∙ sym (kept_dc s flags kinds old b is kept)

raster_back : (s : Shape) (pli k : ℕ) → raster_place s (raster_block s pli k) ≡ k
unfolding raster_place raster_block
raster_back s pli k = div-add-mod' k (block_columns s pli)

raster_plane : (s : Shape) (pli k : ℕ) → (raster_block s pli k).pli ≡ pli
unfolding raster_block
raster_plane s pli k = refl

-- the planes of the new values
pub kept_planes : (s : Shape) (flags : List Bool) (kinds : List ℕ) (old : List (List ℤ)) (pli : ℕ) → pli < 3 → AreKept s flags kinds old
    → plane_of s flags kinds (with_planes limited s flags kinds old) pli ≡ limited (block_columns s pli) (plane_of s flags kinds old pli)
kept_planes s flags kinds old pli h kept =
    let new = with_planes limited s flags kinds old in
    let w = block_columns s pli in
    let plane = plane_of s flags kinds old pli in
    ext_get_or None (plane_of s flags kinds new pli) (limited w plane) (plane_long s flags kinds new pli ∙ sym (length-by_new nearest w [] plane ∙ plane_long s flags kinds old pli))
    (λ k below.
    let within : k < plane_blocks s pli = omega (arith, plane_long s flags kinds new pli) in
    let b = raster_block s pli k in
    block_in_plane s flags kinds new pli k within ∙ kept_block s flags kinds old b (raster_is_block s pli k h within) kept
    ∙ ap (λ (p : ℕ). get_or (limited (block_columns s p) (plane_of s flags kinds old p)) (raster_place s b) None) (raster_plane s pli k)
    ∙ ap (λ place. get_or (limited w plane) place None) (raster_back s pli k))

-- a DC value is the nearest to the old one of those near its predictor
pub kept_near : (s : Shape) (flags : List Bool) (kinds : List ℕ) (old new : List (List ℤ)) (b : Block) → IsBlock s b → AreKept s flags kinds old → new ≡ with_planes limited s flags kinds old
    → entry (get_or new (place_of s b) []) 0
    ≡ nearest (entry (get_or old (place_of s b) []) 0) (predicted (block_columns s b.pli) (take (raster_place s b) (plane_of s flags kinds new b.pli)) (get_or kinds (place_of s b) 0))
unfolding kept_value
kept_near s flags kinds old new b is kept made =
    let w = block_columns s b.pli in
    let planes = ap (λ (l : List (List ℤ)). plane_of s flags kinds l b.pli) made ∙ kept_planes s flags kinds old b.pli is.0 kept in
    ap (λ (l : List (List ℤ)). entry (get_or l (place_of s b) []) 0) made ∙ kept_entry s flags kinds old b is kept
    ∙ ap (λ (l : List (Option Coded)). nearest (entry (get_or old (place_of s b) []) 0) (predicted w (take (raster_place s b) l) (get_or kinds (place_of s b) 0))) (sym planes)
