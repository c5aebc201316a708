-- The predicted samples of luma blocks, and the blocks at the places of a macro block. The search and the choice cite these.
use Rattle.std.proofs.Common.{◌≡◌, ◌∙◌, ℕ, ◌==◌, ◌+◌, ◌*◌, ◌<◌, false, List, [], ◌∷◌, ◌++◌, length, map, get_or, Some, slice_get, refl, ap, sym, arith}
use Rattle.std.specs.List.{All, Contains}
use Rattle.std.proofs.Math.Nat.{add-zero}
use Rattle.std.proofs.lemmas.Bool.{eqb-true}
use Rattle.std.proofs.lemmas.List.{length-map, get_or-map, ext_get_or, take_all}
use Rattle.std.proofs.lemmas.List.Elements.{All-contains, Contains-get_or, Contains-append_left}
use Rattle.vid_base.specs.declared.shape.Shape.{Shape}
use Rattle.vid_geom.specs.declared.block.Block.{Block}
use Rattle.vid_geom.specs.CodedOrder.{IsBlock, place_of}
use Rattle.vid_geom.specs.MacroBlocks.{Area, area_blocks, macro_blocks, macro_order}
use Rattle.vid_geom.proofs.ListLemmas.{Contains-flat_map, Contains-slice_get}
use Rattle.vid_geom.proofs.MacroBlockLemmas.{macro_order_names_each_once}
use Rattle.vid_geom.proofs.OrderLemmas.{not_true, place_apart}
use Rattle.vid_plane.specs.Picture.{Picture, pixel, run_of}
use Rattle.thr_modes.specs.Vectors.{Offset}
use Rattle.thr_recon.specs.Predicted.{flat, predicted_by}
use Rattle.thr_recon.specs.Rebuilt.{block_of}
use Rattle.thr_frame.specs.CodedFrame.{intra_mode}
use Rattle.thr_frame.specs.Rebuilt.{Pair, reference_of}
use Rattle.thr_frame.proofs.OwnLemmas.{own_place}
use Rattle.enc_search.specs.Found.{luma_samples}

-- an intra block
pub flat_luma : (refs : Pair) (mode : ℕ) (v : Offset) (b : Block) → mode ≡ 1 → flat ≡ luma_samples refs mode v b
unfolding luma_samples
flat_luma refs mode v b intra = rw intra refl

-- any other
pub led_luma : (refs : Pair) (mode : ℕ) (v : Offset) (b : Block) → (mode ≡ 1 → ⊥) → predicted_by (reference_of refs mode 0) (8 * b.col) (8 * b.row) v.x v.y false false ≡ luma_samples refs mode v b
unfolding luma_samples
led_luma refs mode v b inter =
    let other : (mode == intra_mode) ≡ false = not_true (mode == intra_mode) (λ yes. inter (eqb-true mode 1 yes)) in
    rw other refl

-- a block of a macro block is one of the frame
pub luma_inside : (s : Shape) (m : ℕ) (area : Area) (b : Block) → slice_get (macro_blocks s) m ≡ Some area → Contains area.luma b → IsBlock s b
unfolding macro_order
luma_inside s m area b at among =
    All-contains (IsBlock s) (macro_order s) b (macro_order_names_each_once s).only
    (Contains-flat_map area_blocks (macro_blocks s) area b (Contains-slice_get (macro_blocks s) m area at) (Contains-append_left (area.luma ++ area.cb) area.cr b (Contains-append_left area.luma area.cb b among)))

-- blocks at the places of a macro block's luma blocks are these
pub luma_is : (s : Shape) (m : ℕ) (area : Area) (places : List ℕ) (blocks : List Block) → slice_get (macro_blocks s) m ≡ Some area → places ≡ map (place_of s) area.luma → length blocks ≡ length places
    → All (IsBlock s) blocks → ((k : ℕ) (d : Block) → k < length blocks → place_of s (get_or blocks k d) ≡ get_or places k 0) → blocks ≡ area.luma
luma_is s m area places blocks at are long inside placed =
    ext_get_or none blocks area.luma (omega (arith, long, ap length are, length-map area.luma (place_of s))) (λ k h.
    (let within : k < length area.luma = omega (arith, long, ap length are, length-map area.luma (place_of s)) in
    let here : place_of s (get_or area.luma k none) ≡ get_or places k 0 = sym (get_or-map (place_of s) area.luma k none 0 within) ∙ ap (λ (l : List ℕ). get_or l k 0) (sym are) in
    place_apart s (get_or blocks k none) (get_or area.luma k none) (inside k none h) (luma_inside s m area (get_or area.luma k none) at (Contains-get_or area.luma k none within)) (placed k none h ∙ sym here)))
  where
    none : Block
    none = record { pli = 0; col = 0; row = 0 }

-- and they are of the luma plane
pub luma_plane : (s : Shape) (m k : ℕ) (area : Area) (places : List ℕ) (b : Block) → slice_get (macro_blocks s) m ≡ Some area → places ≡ map (place_of s) area.luma → length places ≡ 4 → k < 4 → IsBlock s b
    → place_of s b ≡ get_or places k 0 → b.pli ≡ 0
luma_plane s m k area places b at are four small is placed =
    let own = own_place s m 0 4 k area places (omega arith) at (take_all 4 places (omega (arith, four)) ∙ are) (omega (arith, four)) small in
    ap (λ (c : Block). c.pli) (place_apart s b own.block is own.is_block (placed ∙ sym own.at)) ∙ own.plane

-- rows of a picture are a block
pub rows_are : (p : Picture) (x y : ℕ)
    → run_of p x y 8 ∷ run_of p x (y + 1) 8 ∷ run_of p x (y + 2) 8 ∷ run_of p x (y + 3) 8 ∷ run_of p x (y + 4) 8 ∷ run_of p x (y + 5) 8 ∷ run_of p x (y + 6) 8 ∷ run_of p x (y + 7) 8 ∷ []
    ≡ block_of (λ u v. pixel p (x + u) (y + v))
unfolding block_of run_of
rows_are p x y =
    ap (λ n. run_of p x n 8 ∷ run_of p x (y + 1) 8 ∷ run_of p x (y + 2) 8 ∷ run_of p x (y + 3) 8 ∷ run_of p x (y + 4) 8 ∷ run_of p x (y + 5) 8 ∷ run_of p x (y + 6) 8 ∷ run_of p x (y + 7) 8 ∷ []) (sym (add-zero y))
