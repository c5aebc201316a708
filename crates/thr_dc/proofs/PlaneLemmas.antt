-- The blocks of a plane by their places in raster order and by their coded places. The walks through a plane cite these.
use Rattle.std.proofs.Common.{◌≡◌, ◌∙◌, ℕ, zero, suc, ◌+◌, ◌-◌, ◌*◌, ◌/◌, ◌%◌, ◌<◌, ◌≤◌, Bool, true, false, List, [], length, get_or, Some, None, ℤ, pos, refl, ap, arith}
use Rattle.std.proofs.lemmas.List.FromFn.{length-map-range_with_len, get_or-map-range_with_len}
use Rattle.std.proofs.lemmas.Nat.{div-mul-add, div_below, mod-mul-add, mod_below}
use Rattle.std.proofs.Math.Nat.{mul-suc, suc-mul}
use Rattle.vid_base.specs.declared.shape.Shape.{Shape}
use Rattle.vid_geom.specs.CodedOrder.{block_columns, place_of, plane_blocks}
use Rattle.thr_dc.specs.Frames.{block_at, dc_at, plane_of, raster_block}
use Rattle.thr_dc.specs.Planes.{IsAlong}

-- a place of a plane has a column and a row
pub some_column : (w h place : ℕ) → place < w * h → 0 < w
some_column w h place l = grind arith

pub column_below : (w h place : ℕ) → place < w * h → place % w < w
column_below w h place l = mod_below place w (some_column w h place l)

pub row_below : (w h place : ℕ) → place < w * h → place / w < h
row_below w h place l = div_below place w h (some_column w h place l) (grind arith)

-- the block at a place of a plane
pub block_in_plane : (s : Shape) (flags : List Bool) (kinds : List ℕ) (values : List (List ℤ)) (pli place : ℕ) → place < plane_blocks s pli
    → get_or (plane_of s flags kinds values pli) place None ≡ dc_at flags kinds values (place_of s (raster_block s pli place))
unfolding plane_of
block_in_plane s flags kinds values pli place h = get_or-map-range_with_len (λ k. dc_at flags kinds values (place_of s (raster_block s pli k))) 0 (plane_blocks s pli) place place None h (omega arith)

pub plane_long : (s : Shape) (flags : List Bool) (kinds : List ℕ) (values : List (List ℤ)) (pli : ℕ) → length (plane_of s flags kinds values pli) ≡ plane_blocks s pli
unfolding plane_of
plane_long s flags kinds values pli = length-map-range_with_len (λ k. dc_at flags kinds values (place_of s (raster_block s pli k))) 0 (plane_blocks s pli)

-- a block that is coded, and one that is not, by the flag at its coded place
pub coded_block : (s : Shape) (flags : List Bool) (kinds : List ℕ) (values : List (List ℤ)) (pli place coded_place : ℕ) → place < plane_blocks s pli → coded_place ≡ place_of s (raster_block s pli place) → get_or flags coded_place false ≡ true
    → get_or (plane_of s flags kinds values pli) place None ≡ Some (record { kind = get_or kinds coded_place 0; value = get_or (get_or values coded_place []) 0 (pos 0) })
unfolding dc_at
coded_block s flags kinds values pli place coded_place h e flag =
    let there = block_in_plane s flags kinds values pli place h in
    (rw (← e) at there) ∙ rw flag refl

pub uncoded_block : (s : Shape) (flags : List Bool) (kinds : List ℕ) (values : List (List ℤ)) (pli place coded_place : ℕ) → place < plane_blocks s pli → coded_place ≡ place_of s (raster_block s pli place) → get_or flags coded_place false ≡ false
    → get_or (plane_of s flags kinds values pli) place None ≡ None
unfolding dc_at
uncoded_block s flags kinds values pli place coded_place h e flag =
    let there = block_in_plane s flags kinds values pli place h in
    (rw (← e) at there) ∙ rw flag refl

-- the column and the row of a place
pub along_here : (w place : ℕ) → 0 < w → IsAlong w place (place % w) (place / w)
along_here w place some = record { inside = mod_below place w some; place_is = grind arith }

-- those of the places to the left, to the right and below
pub along_left : (w place column row : ℕ) → 0 < column → IsAlong w place column row → IsAlong w (place - 1) (column - 1) row
along_left w place column row some along = record { inside = omega (arith, along.inside); place_is = omega (arith, along.place_is) }

pub along_right : (w place column row : ℕ) → column + 1 < w → IsAlong w place column row → IsAlong w (place + 1) (column + 1) row
along_right w place column row more along = record { inside = more; place_is = omega (arith, along.place_is) }

pub row_above : (w place column row : ℕ) → w ≤ place → IsAlong w place column row → 0 < row
row_above w place column zero h along = omega (arith, along.inside, along.place_is)
row_above w place column (suc row) h along = omega arith

pub along_below : (w place column row : ℕ) → w ≤ place → IsAlong w place column row → IsAlong w (place - w) column (row - 1)
along_below w place column row h along =
    let some = row_above w place column row h along in
    let next : row ≡ suc (row - 1) = omega arith in
    let more : row * w ≡ (row - 1) * w + w = ap (λ r. r * w) next ∙ suc-mul (row - 1) w in
    record { inside = along.inside; place_is = omega (arith, along.place_is, more) }

-- those of the first place of a row and of the first place of all
pub along_first : (w h : ℕ) → 0 < w * h → IsAlong w 0 0 0
along_first w h some = record { inside = some_column w h 0 some; place_is = omega arith }

pub along_next_row : (w place column row : ℕ) → w ≤ column + 1 → IsAlong w place column row → IsAlong w (place + 1) 0 (row + 1)
along_next_row w place column row last along = record { inside = omega (arith, along.inside); place_is = omega (arith, along.inside, along.place_is, suc-mul row w) }

-- a row's number is no larger than the place of a block in it
pub row_low : (w place column row : ℕ) → IsAlong w place column row → row ≤ place
row_low zero place column row along = absurd (omega (arith, along.inside))
row_low (suc w) place column row along = omega (arith, along.place_is, mul-suc row w)

pub column_is : (w place column row : ℕ) → IsAlong w place column row → place % w ≡ column
column_is w place column row along = ap (λ p. p % w) along.place_is ∙ mod-mul-add row w column along.inside

pub row_is : (w place column row : ℕ) → IsAlong w place column row → place / w ≡ row
row_is w place column row along = ap (λ p. p / w) along.place_is ∙ div-mul-add row w column along.inside

-- the block there
pub along_block : (s : Shape) (pli place column row : ℕ) → IsAlong (block_columns s pli) place column row → block_at pli column row ≡ raster_block s pli place
unfolding raster_block
along_block s pli place column row along =
    let w = block_columns s pli in
    rw (column_is w place column row along, row_is w place column row along) refl

-- it stands in the plane
pub along_within : (w h place column row : ℕ) → row < h → IsAlong w place column row → place < w * h
along_within w h place column row low along = grind (arith, along.inside, along.place_is)
