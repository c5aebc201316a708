-- The coefficients of a frame are near its target. The frame cites these.
use Rattle.std.proofs.Common.{◌≡◌, ◌∙◌, ℕ, zero, suc, ℤ, pos, ◌+◌, ◌*◌, ◌+ℤ◌, ◌-ℤ◌, ◌<◌, ◌≤◌, ◌==◌, unsigned_abs, Bool, true, false, List, [], ◌∷◌, length, get_or, map, replicate, take, refl, sym, ap, subst, arith, if◌then◌else◌}
use Rattle.std.specs.List.{All}
use Rattle.std.proofs.lemmas.Bool.{false≢true}
use Rattle.std.proofs.lemmas.List.{get_or-map, get_or-set_other, length-map}
use Rattle.std.proofs.lemmas.List.Elements.{All-from_get_or}
use Rattle.std.proofs.lemmas.Option.{get_or_from_slice_get}
use Rattle.vid_base.specs.declared.shape.Shape.{Shape}
use Rattle.vid_geom.specs.declared.block.Block.{Block}
use Rattle.vid_geom.specs.CodedOrder.{IsBlock, block_columns, order_of, place_of}
use Rattle.vid_geom.specs.ByBlock.{by_block, macro_place}
use Rattle.vid_geom.proofs.ByBlockLemmas.{length-by_block}
use Rattle.vid_geom.proofs.OrderLemmas.{at_place, place_below}
use Rattle.thr_quant.specs.Ramps.{Ramps}
use Rattle.thr_quant.specs.Matrix.{matrix_at}
use Rattle.thr_setup.specs.Setup.{Contents}
use Rattle.thr_modes.specs.Vectors.{Offset, offset_of, still}
use Rattle.thr_dc.specs.Frames.{ChangesDc, plane_of, raster_place, with_planes}
use Rattle.thr_dc.specs.Prediction.{limited, nearest, predicted}
use Rattle.thr_dc.proofs.FrameLemmas.{standing}
use Rattle.thr_dct.specs.Forward.{forward_of}
use Rattle.thr_dct.specs.Line.{entry}
use Rattle.thr_recon.specs.Residual.{zigzag}
use Rattle.thr_frame.specs.CodedFrame.{CodedFrame, intra_mode, kind_of, kinds_of}
use Rattle.thr_frame.specs.Rebuilt.{matrix_kind, mode_at, predictor_at}
use Rattle.enc_search.specs.Searched.{Samples, block_samples}
use Rattle.enc_near.specs.declared.sources.Sources.{Sources}
use Rattle.enc_near.specs.Made.{AreEntries, AreMade, matrices_of, matrix_place, samples_by}
use Rattle.enc_near.specs.Near.{IsNearBlock, IsNearFrame, IsNearest, block_matrix, coefficient, dc_predictor, fewest, lacking, most, prediction, wanted}
use Rattle.enc_near.specs.Sources.{AreMadeBefore, kind_at, matrix_by, refs_of, wanted_by}
use Rattle.enc_near.proofs.DcLemmas.{AreKept, all_coded, kept_near}
use Rattle.enc_near.proofs.DistanceLemmas.{kept_nearest}
use Rattle.enc_near.proofs.SampleLemmas.{matrix_kind_is, predictor_is}
use Rattle.enc_near.proofs.ZigzagLemmas.{zigzag_behind}

-- there is a kind for each block
pub length-kinds : (s : Shape) (modes : List ℕ) → length (kinds_of s modes) ≡ length (order_of s)
length-kinds s modes = length-map (by_block s 0 modes) kind_of ∙ length-by_block s 0 modes

-- that of a block is that of its mode
kind_is : (s : Shape) (modes : List ℕ) (b : Block) → IsBlock s b → get_or (kinds_of s modes) (place_of s b) 0 ≡ kind_of (get_or modes (macro_place s b) 0)
unfolding by_block
kind_is s modes b is =
    let one : Block → ℕ = λ b. get_or modes (macro_place s b) 0 in
    let within = place_below s b is in
    get_or-map kind_of (map one (order_of s)) (place_of s b) 0 0 (omega (arith, length-map (order_of s) one))
    ∙ ap kind_of (get_or-map one (order_of s) (place_of s b) b 0 within ∙ ap one (get_or_from_slice_get (order_of s) (place_of s b) b b (at_place s b is)))

-- the matrix at its place among the six
six_at : (ramps : Ramps) (qi kind pli : ℕ) → kind < 2 → pli < 3 → get_or (matrices_of ramps qi) (3 * kind + pli) [] ≡ matrix_at ramps kind pli qi
unfolding matrices_of
six_at ramps qi zero zero h p = refl
six_at ramps qi zero (suc zero) h p = refl
six_at ramps qi zero (suc (suc zero)) h p = refl
six_at ramps qi (suc zero) zero h p = refl
six_at ramps qi (suc zero) (suc zero) h p = refl
six_at ramps qi (suc zero) (suc (suc zero)) h p = refl
six_at ramps qi (suc (suc kind)) pli h p = absurd (omega arith)
six_at ramps qi kind (suc (suc (suc pli))) h p = absurd (omega arith)

matrix_kind_small : (mode : ℕ) → matrix_kind mode < 2
matrix_kind_small mode = go (mode == intra_mode)
  where
    go : (intra : Bool) → (if intra then 0 else 1) < 2
    go true = omega arith
    go false = omega arith

-- a matrix has entries by which a quotient is small
pub entries_are : (m : List ℕ) → All (λ v. (8 ≤ v) × (v ≤ 4096)) m → 16 ≤ get_or m 0 0 → AreEntries m
entries_are m all first = record { each = λ k d h. (all k d h).0; first = first }

-- what a frame is coded with, and what the code made it from
pub record IsMade (setup : Contents) (qi : ℕ) (from : Sources) (old new : List (List ℤ)) (c : CodedFrame) : Type 0 where
  pub flags : c.flags ≡ replicate (length (order_of from.geom.now)) true
  pub kinds : from.kinds.now ≡ kinds_of from.geom.now c.modes
  pub vectors : c.vectors ≡ map offset_of from.vectors.now
  pub qis : c.qis ≡ qi ∷ []
  pub matrices : from.matrices.now ≡ matrices_of setup.ramps qi
  pub values : c.values ≡ new
  pub old_made : AreMadeBefore from (length (order_of from.geom.now)) old
  pub kept : new ≡ with_planes limited from.geom.now c.flags from.kinds.now old
  pub changes : ChangesDc c.flags old new
  pub full : (place : ℕ) → place < length (order_of from.geom.now) → 0 < length (get_or old place [])

-- what is wanted of a block
wanted_is : (setup : Contents) (qi : ℕ) (from : Sources) (old new : List (List ℤ)) (c : CodedFrame) (b : Block) → IsMade setup qi from old new c
    → kind_at from b ≡ kind_of (mode_at from.geom.now c b) → get_or c.flags (place_of from.geom.now b) false ≡ true → wanted_by from b ≡ wanted from.geom.now (refs_of from) from.target.now c b
unfolding wanted_by prediction
wanted_is setup qi from old new c b made kind coded =
    let s = from.geom.now in
    let place = place_of s b in
    let by : Samples → List ℤ = λ P. forward_of (lacking (block_samples from.target.now b) P) in
    let led : samples_by s (refs_of from) (kind_at from b) (get_or (map offset_of from.vectors.now) place still) b ≡ predictor_at s (refs_of from) c b =
    ap (λ k. samples_by s (refs_of from) k (get_or (map offset_of from.vectors.now) place still) b) kind
    ∙ ap (λ (l : List Offset). samples_by s (refs_of from) (kind_of (mode_at s c b)) (get_or l place still) b) (sym made.vectors)
    ∙ predictor_is s (refs_of from) c b in
    ap by led ∙ rw coded refl

block_near : (setup : Contents) (qi : ℕ) (from : Sources) (old new : List (List ℤ)) (c : CodedFrame) (b : Block) → IsBlock from.geom.now b → IsMade setup qi from old new c → IsNearBlock setup from.geom.now (refs_of from) from.target.now c b
unfolding coefficient dc_predictor
block_near setup qi from old new c b is made = record { others = others; dc = λ yes. dc; uncoded = λ off. absurd (false≢true (sym off ∙ coded)) }
  where
    s : Shape
    s = from.geom.now

    place : ℕ
    place = place_of s b

    below : place < length (order_of s)
    below = place_below s b is

    block : AreMade (wanted_by from b) (matrix_by from b) (get_or old place [])
    block = made.old_made b is below

    coded : get_or c.flags place false ≡ true
    coded = all_coded (length (order_of s)) place c.flags made.flags below

    kind : kind_at from b ≡ kind_of (mode_at s c b)
    kind = ap (λ (l : List ℕ). get_or l place 0) made.kinds ∙ kind_is s c.modes b is

    wanted_here : wanted_by from b ≡ wanted s (refs_of from) from.target.now c b
    wanted_here = wanted_is setup qi from old new c b made kind coded

    matrix_is : matrix_by from b ≡ block_matrix setup s c b
    matrix_is =
        ap (λ (l : List (List ℕ)). get_or l (matrix_place (kind_at from b) b.pli) []) made.matrices
        ∙ ap (λ k. get_or (matrices_of setup.ramps qi) (matrix_place k b.pli) []) kind
        ∙ ap (λ n. get_or (matrices_of setup.ramps qi) (n + b.pli) []) (matrix_kind_is (mode_at s c b))
        ∙ six_at setup.ramps qi (matrix_kind (mode_at s c b)) b.pli (matrix_kind_small (mode_at s c b)) is.0
        ∙ ap (λ (l : List ℕ). matrix_at setup.ramps (matrix_kind (mode_at s c b)) b.pli (get_or l 0 0)) (sym made.qis)

    others : (k : ℕ) → 0 < k → k < 64 → IsNearest (entry (wanted s (refs_of from) from.target.now c b) k) (get_or (block_matrix setup s c b) k 0) fewest most (coefficient s c b k)
    others k some within =
        let j = get_or zigzag k 0 in
        let behind : 0 < j = zigzag_behind k some within in
        let was = get_or old place [] in
        let same : entry (get_or c.values place []) j ≡ entry was j =
        ap (λ (l : List (List ℤ)). entry (get_or l place []) j) made.values ∙ ap (λ (l : List ℤ). entry l j) (made.changes.only_dc place)
        ∙ get_or-set_other was 0 j (entry (get_or new place []) 0) (pos 0) (λ e. omega arith) in
        let P : List ℤ → Type 0 = λ f. IsNearest (entry f k) (get_or (matrix_by from b) k 0) fewest most (entry was j) in
        let Q : List ℕ → Type 0 = λ m. IsNearest (entry (wanted s (refs_of from) from.target.now c b) k) (get_or m k 0) fewest most (entry was j) in
        let R : ℤ → Type 0 = IsNearest (entry (wanted s (refs_of from) from.target.now c b) k) (get_or (block_matrix setup s c b) k 0) fewest most in
        subst R (sym same) (subst Q matrix_is (subst P wanted_here (block.others k some within)))

    dc : IsNearest (entry (wanted s (refs_of from) from.target.now c b) 0) (get_or (block_matrix setup s c b) 0 0) (dc_predictor s c b -ℤ most) (dc_predictor s c b +ℤ most) (coefficient s c b 0)
    dc =
        let v = entry (get_or old place []) 0 in
        let predictor : List ℕ → List (List ℤ) → ℤ = λ kinds values. predicted (block_columns s b.pli) (take (raster_place s b) (plane_of s c.flags kinds values b.pli)) (get_or kinds place 0) in
        let p = predictor (kinds_of s c.modes) c.values in
        let kept : AreKept s c.flags from.kinds.now old = record { all = made.flags; full = made.full } in
        let same : entry (get_or c.values place []) 0 ≡ nearest v p =
        ap (λ (l : List (List ℤ)). entry (get_or l place []) 0) made.values ∙ kept_near s c.flags from.kinds.now old new b is kept made.kept
        ∙ ap (λ (k : List ℕ). nearest v (predictor k new)) made.kinds ∙ ap (λ (l : List (List ℤ)). nearest v (predictor (kinds_of s c.modes) l)) (sym made.values) in
        let P : List ℤ → Type 0 = λ f. IsNearest (entry f 0) (get_or (matrix_by from b) 0 0) (p -ℤ most) (p +ℤ most) (nearest v p) in
        let Q : List ℕ → Type 0 = λ m. IsNearest (entry (wanted s (refs_of from) from.target.now c b) 0) (get_or m 0 0) (p -ℤ most) (p +ℤ most) (nearest v p) in
        let R : ℤ → Type 0 = IsNearest (entry (wanted s (refs_of from) from.target.now c b) 0) (get_or (block_matrix setup s c b) 0 0) (p -ℤ most) (p +ℤ most) in
        subst R (sym same) (subst Q matrix_is (subst P wanted_here (kept_nearest (entry (wanted_by from b) 0) v p (get_or (matrix_by from b) 0 0) block.first)))

-- and so is the frame
pub frame_near : (setup : Contents) (qi : ℕ) (from : Sources) (old new : List (List ℤ)) (c : CodedFrame) → IsMade setup qi from old new c → IsNearFrame setup from.geom.now (refs_of from) from.target.now c
frame_near setup qi from old new c made = record { blocks = λ b is. block_near setup qi from old new c b is made }

nothing : Block
nothing = record { pli = 0; col = 0; row = 0 }

-- made coefficients are small, and there are 64 of a block
pub made_small : (from : Sources) (values : List (List ℤ)) → length values ≡ length (order_of from.geom.now) → AreMadeBefore from (length (order_of from.geom.now)) values → All (All (λ v. unsigned_abs v ≤ 580)) values
made_small from values long made = All-from_get_or (All (λ v. unsigned_abs v ≤ 580)) values [] (λ place within. (
    let below : place < length (order_of from.geom.now) = omega (arith, long) in
    let stands = standing from.geom.now place nothing below in
    let b = get_or (order_of from.geom.now) place nothing in
    let P : ℕ → Type 0 = λ n. All (λ v. unsigned_abs v ≤ 580) (get_or values n []) in
    subst P stands.at (made b stands.is (place_below from.geom.now b stands.is)).small))

pub made_full : (from : Sources) (values : List (List ℤ)) → AreMadeBefore from (length (order_of from.geom.now)) values → (place : ℕ) → place < length (order_of from.geom.now) → 0 < length (get_or values place [])
made_full from values made place below =
    let stands = standing from.geom.now place nothing below in
    let b = get_or (order_of from.geom.now) place nothing in
    let here = made b stands.is (place_below from.geom.now b stands.is) in
    let P : ℕ → Type 0 = λ n. 0 < length (get_or values n []) in
    subst P stands.at (omega (arith, here.long))
