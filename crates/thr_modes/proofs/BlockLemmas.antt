-- Vectors put at the places of the macro blocks' blocks are the vectors by block. The readers and the writer of vectors cite these.
use Rattle.std.proofs.Common.{◌≡◌, ◌∙◌, ℕ, ◌<◌, Bool, true, false, List, [], ◌∷◌, ◌++◌, length, length-append, map, get_or, Some, slice_get, refl, ap, sym, arith}
use Rattle.std.specs.List.{All, flat_map, position_or_len}
use Rattle.std.proofs.lemmas.Bool.Decides.{nat_tests}
use Rattle.std.proofs.lemmas.List.{length-map, map-append, get_or-map, ext_get_or}
use Rattle.std.proofs.lemmas.List.Elements.{All-head, All-tail}
use Rattle.std.proofs.lemmas.List.Sums.{position_or_len_is}
use Rattle.std.proofs.lemmas.Option.{slice_get-map, slice_get_within, slice_get-get_or, get_or_from_slice_get, same_Some}
use Rattle.vid_base.specs.declared.shape.Shape.{Shape}
use Rattle.vid_geom.specs.declared.block.Block.{Block}
use Rattle.vid_geom.specs.CodedOrder.{IsBlock, order_of, place_of, same_block}
use Rattle.vid_geom.specs.MacroBlocks.{Area, area_blocks, macro_blocks, macro_order}
use Rattle.vid_geom.proofs.ListLemmas.{All-at, slice_get-Contains}
use Rattle.vid_geom.proofs.MacroBlockLemmas.{macro_order_names_each_once}
use Rattle.vid_geom.proofs.OrderLemmas.{block_at, place_at, place_apart}
use Rattle.thr_modes.specs.Vectors.{Offset, still}
use Rattle.thr_modes.specs.Motion.{Motion, block_vectors, by_block}
use Rattle.thr_modes.specs.Placing.{put_at, put_motion, put_all}
use Rattle.thr_modes.proofs.AreaLemmas.{HasSizes, sizes}
use Rattle.thr_modes.proofs.MotionSizes.{HasVectors, AreMotions}
use Rattle.thr_modes.proofs.PutLemmas.{put-append, put_there, length-put_at}

-- blocks that the test takes for one are one
same_is : (a b : Block) → same_block a b ≡ true → a ≡ b
same_is a b h = same_parts (grind (arith, nat_tests)) (grind (arith, nat_tests)) (grind (arith, nat_tests))
  where
    same_parts : a.pli ≡ b.pli → a.col ≡ b.col → a.row ≡ b.row → a ≡ b
    same_parts pli col row = ap (λ n. record { pli = n; col = a.col; row = a.row }) pli ∙ ap (λ n. record { pli = b.pli; col = n; row = a.row }) col ∙ ap (λ n. record { pli = b.pli; col = b.col; row = n }) row

same_self : (b : Block) → same_block b b ≡ true
same_self b = grind (arith, nat_tests)

not_true : (b : Bool) → (b ≡ true → ⊥) → b ≡ false
not_true true h = absurd (h refl)
not_true false h = refl

-- where a block of the macro blocks stands among them
pub position_is : (s : Shape) (j : ℕ) (b : Block) → slice_get (macro_order s) j ≡ Some b → position_or_len (same_block b) (macro_order s) ≡ j
position_is s j b h =
    let order : List Block = macro_order s in
    let within : j < length order = slice_get_within order j b h in
    let here : get_or order j b ≡ b = get_or_from_slice_get order j b b h in
    position_or_len_is (same_block b) order j b (omega arith)
    (λ i below. not_true (same_block b (get_or order i b)) (λ same.
    (let e : b ≡ get_or order i b = same_is b (get_or order i b) same in
    let there : slice_get order i ≡ Some b = slice_get-get_or order i b (omega arith) ∙ ap Some (sym e) in
    let twice : i ≡ j = (macro_order_names_each_once s).once i j b there h in
    omega arith)))
    (λ _. rw here (same_self b))

-- no place stands twice among those of the macro blocks' blocks
places_once : (s : Shape) (i k p : ℕ) → slice_get (map (place_of s) (macro_order s)) i ≡ Some p → slice_get (map (place_of s) (macro_order s)) k ≡ Some p → i ≡ k
places_once s i k p a b =
    let order : List Block = macro_order s in
    let names = macro_order_names_each_once s in
    let none : Block = record { pli = 0; col = 0; row = 0 } in
    let l : i < length order = omega (arith, slice_get_within (map (place_of s) order) i p a, length-map order (place_of s)) in
    let m : k < length order = omega (arith, slice_get_within (map (place_of s) order) k p b, length-map order (place_of s)) in
    let x : slice_get order i ≡ Some (get_or order i none) = slice_get-get_or order i none l in
    let y : slice_get order k ≡ Some (get_or order k none) = slice_get-get_or order k none m in
    let px : place_of s (get_or order i none) ≡ p = same_Some (place_of s (get_or order i none)) p (sym (slice_get-map (place_of s) order i ∙ rw x refl) ∙ a) in
    let py : place_of s (get_or order k none) ≡ p = same_Some (place_of s (get_or order k none)) p (sym (slice_get-map (place_of s) order k ∙ rw y refl) ∙ b) in
    let same : get_or order i none ≡ get_or order k none = place_apart s (get_or order i none) (get_or order k none) (All-at (IsBlock s) order i (get_or order i none) x names.only) (All-at (IsBlock s) order k (get_or order k none) y names.only) (px ∙ sym py) in
    names.once i k (get_or order i none) x (y ∙ ap Some (sym same))

-- values put at all places, by block
put_by_block : (s : Shape) (vectors values : List Offset) → length vectors ≡ length (order_of s) → length (macro_order s) ≡ length values
    → put_at vectors (map (place_of s) (macro_order s)) values ≡ map (λ b. get_or values (position_or_len (same_block b) (macro_order s)) still) (order_of s)
put_by_block s vectors values long count =
    ext_get_or still (put_at vectors places values) (map value (order_of s)) (length-put_at vectors places values ∙ long ∙ sym (length-map (order_of s) value)) each
  where
    places : List ℕ
    places = map (place_of s) (macro_order s)

    value : Block → Offset
    value b = get_or values (position_or_len (same_block b) (macro_order s)) still

    each : (i : ℕ) → i < length (put_at vectors places values) → get_or (put_at vectors places values) i still ≡ get_or (map value (order_of s)) i still
    each i h =
        let none : Block = record { pli = 0; col = 0; row = 0 } in
        let within : i < length (order_of s) = omega (arith, length-put_at vectors places values) in
        let b : Block = get_or (order_of s) i none in
        let stands : slice_get (order_of s) i ≡ Some b = slice_get-get_or (order_of s) i none within in
        let found = slice_get-Contains (macro_order s) b ((macro_order_names_each_once s).each b (block_at s i b stands)) in
        let at : slice_get places found.0 ≡ Some i = slice_get-map (place_of s) (macro_order s) found.0 ∙ rw found.1 (ap Some (place_at s i b stands)) in
        put_there vectors places values found.0 i still (places_once s) (omega arith) (length-map (macro_order s) (place_of s) ∙ count) at
        ∙ ap (λ j. get_or values j still) (sym (position_is s found.0 b found.1))
        ∙ sym (get_or-map value (order_of s) i none still within)

-- a macro block has as many vectors as blocks
pub same_long : (pf : ℕ) (area : Area) (motion : Motion) → HasSizes pf area → HasVectors pf motion → length (area_blocks area) ≡ length (block_vectors motion)
unfolding block_vectors
same_long pf area motion has vectors =
    let a = has.luma in let b = has.cb in let c = has.cr in let d = vectors.luma in let e = vectors.chroma in
    omega (arith, length-append (area.luma ++ area.cb) area.cr, length-append area.luma area.cb, length-append (motion.luma ++ motion.chroma) motion.chroma, length-append motion.luma motion.chroma)

-- vectors put macro block by macro block are put all at once
pub both_long : (pf : ℕ) (areas : List Area) (motions : List Motion) → All (HasSizes pf) areas → All (HasVectors pf) motions → length areas ≡ length motions → length (flat_map area_blocks areas) ≡ length (flat_map block_vectors motions)
both_long pf [] [] has vectors e = refl
both_long pf [] (motion ∷ motions) has vectors e = absurd (omega arith)
both_long pf (area ∷ areas) [] has vectors e = absurd (omega arith)
both_long pf (area ∷ areas) (motion ∷ motions) has vectors e =
    let first = same_long pf area motion (All-head (HasSizes pf) area areas has) (All-head (HasVectors pf) motion motions vectors) in
    let others = both_long pf areas motions (All-tail (HasSizes pf) area areas has) (All-tail (HasVectors pf) motion motions vectors) (omega arith) in
    omega (arith, length-append (area_blocks area) (flat_map area_blocks areas), length-append (block_vectors motion) (flat_map block_vectors motions))

put_all_is : (s : Shape) (old : List Offset) (areas : List Area) (motions : List Motion) → All (HasSizes s.pf) areas → All (HasVectors s.pf) motions → length areas ≡ length motions
    → put_all s old areas motions ≡ put_at old (map (place_of s) (flat_map area_blocks areas)) (flat_map block_vectors motions)
unfolding put_all put_motion put_at
put_all_is s old [] [] has vectors e = refl
put_all_is s old [] (motion ∷ motions) has vectors e = absurd (omega arith)
put_all_is s old (area ∷ areas) [] has vectors e = absurd (omega arith)
put_all_is s old (area ∷ areas) (motion ∷ motions) has vectors e =
    let place = place_of s in
    let first : length (map place (area_blocks area)) ≡ length (block_vectors motion) = length-map (area_blocks area) place ∙ same_long s.pf area motion (All-head (HasSizes s.pf) area areas has) (All-head (HasVectors s.pf) motion motions vectors) in
    put_all_is s (put_at old (map place (area_blocks area)) (block_vectors motion)) areas motions (All-tail (HasSizes s.pf) area areas has) (All-tail (HasVectors s.pf) motion motions vectors) (omega arith)
    ∙ sym (put-append old (map place (area_blocks area)) (map place (flat_map area_blocks areas)) (block_vectors motion) (flat_map block_vectors motions) first)
    ∙ ap (λ places. put_at old places (block_vectors motion ++ flat_map block_vectors motions)) (sym (map-append place (area_blocks area) (flat_map area_blocks areas)))

-- and then each block has its own
pub put_all_by_block : (s : Shape) (old : List Offset) (motions : List Motion) → length old ≡ length (order_of s) → AreMotions s.pf (length (macro_blocks s)) motions → put_all s old (macro_blocks s) motions ≡ by_block s motions
unfolding by_block macro_order
put_all_by_block s old motions long are =
    let count = both_long s.pf (macro_blocks s) motions (sizes s) are.each (sym are.long) in
    put_all_is s old (macro_blocks s) motions (sizes s) are.each (sym are.long) ∙ put_by_block s old (flat_map block_vectors motions) long count
