-- The vectors of a frame that were written are read back. The writer of vectors cites these.
use Rattle.std.proofs.Common.{◌≡◌, ◌∙◌, ℕ, ◌<◌, Bool, true, List, [], ◌∷◌, ◌++◌, length, map, take, drop, get_or, Result, Ok, Err, IfOk, Some, slice_get, refl, ap, sym, arith, append_assoc, inl, inr}
use Rattle.std.specs.List.{All, flat_map, position_or_len}
use Rattle.std.proofs.lemmas.Bool.{cases_lt}
use Rattle.std.proofs.lemmas.Int.{ints}
use Rattle.std.proofs.lemmas.List.{length-map, map-append, get_or-map, get_or_past, ext_get_or, take_at}
use Rattle.std.proofs.lemmas.List.Elements.{All-map, All-head, All-tail}
use Rattle.std.proofs.lemmas.Option.{slice_get-map, slice_get-get_or, get_or_from_slice_get}
use Rattle.std.proofs.Math.Seq.{drop-append_seam}
use Rattle.vid_base.specs.declared.shape.Shape.{Shape}
use Rattle.vid_base.specs.declared.shape.Vector.{Vector}
use Rattle.vid_base.specs.declared.fault.PacketFault.{PacketFault}
use Rattle.vid_base.specs.Reading.{one_bit, ◌>>=◌}
use Rattle.vid_base.specs.Writing.{ReadsBack}
use Rattle.vid_geom.specs.declared.block.Block.{Block}
use Rattle.vid_geom.specs.CodedOrder.{IsBlock, order_of, place_of, same_block}
use Rattle.vid_geom.specs.MacroBlocks.{Area, area_blocks, macro_blocks, macro_order}
use Rattle.vid_geom.proofs.ListLemmas.{All-at}
use Rattle.vid_geom.proofs.MacroBlockLemmas.{macro_order_names_each_once}
use Rattle.vid_geom.proofs.OrderLemmas.{at_place}
use Rattle.thr_modes.specs.Forms.{VectorForm, Fixed}
use Rattle.thr_modes.specs.Chosen.{IsVector}
use Rattle.thr_modes.specs.LumaFlags.{macro_flags}
use Rattle.thr_modes.specs.Vectors.{Offset, offset_of, still}
use Rattle.thr_modes.specs.Motion.{Motion, block_vectors, empty, motions, by_block, coded_vectors, vector_coding, vectors_of}
use Rattle.thr_modes.specs.WrittenVectors.{motions_code, luma_vectors, macro_vectors}
use Rattle.thr_modes.proofs.AreaLemmas.{HasSizes, sizes}
use Rattle.thr_modes.proofs.BlockLemmas.{position_is, same_long, both_long}
use Rattle.thr_modes.proofs.FoldLemmas.{four_flags}
use Rattle.thr_modes.proofs.LumaLemmas.{flags_long}
use Rattle.thr_modes.proofs.MotionSizes.{HasVectors, AreMotions, HaveMotions, motions_have}
use Rattle.thr_modes.proofs.VectorsBack.{luma_of, MotionsBack, motions_back}

-- lists of two parts that are equal have equal parts
split_same : {X : Type 0} (a b c d : List X) → length a ≡ length b → a ++ c ≡ b ++ d → (a ≡ b) × (c ≡ d)
split_same a b c d long e = (
  sym (take_at a c (length a) refl) ∙ ap (take (length a)) e ∙ take_at b d (length a) (sym long),
  sym (drop-append_seam a c) ∙ ap (drop (length a)) e ∙ ap (λ n. drop n (b ++ d)) long ∙ drop-append_seam b d,
)

-- what blocks have, macro block by macro block, in luma
luma_part : (pf : ℕ) (vector : Block → Offset) (area : Area) (motion : Motion) → HasSizes pf area → HasVectors pf motion → map vector (area_blocks area) ≡ block_vectors motion → map vector area.luma ≡ motion.luma
unfolding block_vectors
luma_part pf vector area motion has vectors e =
    let blocks : map vector (area_blocks area) ≡ map vector area.luma ++ map vector (area.cb ++ area.cr) = ap (map vector) (append_assoc area.luma area.cb area.cr) ∙ map-append vector area.luma (area.cb ++ area.cr) in
    (split_same (map vector area.luma) motion.luma (map vector (area.cb ++ area.cr)) (motion.chroma ++ motion.chroma) (length-map area.luma vector ∙ has.luma ∙ sym vectors.luma)
    (sym blocks ∙ e ∙ append_assoc motion.luma motion.chroma motion.chroma)).0

luma_parts : (pf : ℕ) (vector : Block → Offset) (areas : List Area) (all : List Motion) → All (HasSizes pf) areas → All (HasVectors pf) all → length areas ≡ length all
    → map vector (flat_map area_blocks areas) ≡ flat_map block_vectors all → map (λ area. map vector area.luma) areas ≡ luma_of all
luma_parts pf vector [] [] has vectors long e = refl
luma_parts pf vector [] (motion ∷ all) has vectors long e = absurd (omega arith)
luma_parts pf vector (area ∷ areas) [] has vectors long e = absurd (omega arith)
luma_parts pf vector (area ∷ areas) (motion ∷ all) has vectors long e =
    let one = All-head (HasSizes pf) area areas has in
    let own = All-head (HasVectors pf) motion all vectors in
    let parts = split_same (map vector (area_blocks area)) (block_vectors motion) (map vector (flat_map area_blocks areas)) (flat_map block_vectors all) (length-map (area_blocks area) vector ∙ same_long pf area motion one own) (sym (map-append vector (area_blocks area) (flat_map area_blocks areas)) ∙ e) in
    let first : map vector area.luma ≡ motion.luma = luma_part pf vector area motion one own parts.0 in
    let others = luma_parts pf vector areas all (All-tail (HasSizes pf) area areas has) (All-tail (HasVectors pf) motion all vectors) (omega arith) parts.1 in
    ap (λ l. l ∷ map (λ area. map vector area.luma) areas) first ∙ ap (λ ls. motion.luma ∷ ls) others

-- the vector at the place of a block
by_block_at : (s : Shape) (all : List Motion) (j : ℕ) (b : Block) → slice_get (macro_order s) j ≡ Some b → get_or (by_block s all) (place_of s b) still ≡ get_or (flat_map block_vectors all) j still
unfolding by_block
by_block_at s all j b h =
    let value : Block → Offset = λ b. get_or (flat_map block_vectors all) (position_or_len (same_block b) (macro_order s)) still in
    let is : IsBlock s b = All-at (IsBlock s) (macro_order s) j b h (macro_order_names_each_once s).only in
    let there : slice_get (map value (order_of s)) (place_of s b) ≡ Some (value b) = slice_get-map value (order_of s) (place_of s b) ∙ rw (at_place s b is) refl in
    get_or_from_slice_get (map value (order_of s)) (place_of s b) (value b) still there ∙ ap (λ k. get_or (flat_map block_vectors all) k still) (position_is s j b h)

in_order : (s : Shape) (all : List Motion) → length (macro_order s) ≡ length (flat_map block_vectors all) → map (λ b. get_or (by_block s all) (place_of s b) still) (macro_order s) ≡ flat_map block_vectors all
in_order s all long =
    let none : Block = record { pli = 0; col = 0; row = 0 } in
    let vector : Block → Offset = λ b. get_or (by_block s all) (place_of s b) still in
    ext_get_or still (map vector (macro_order s)) (flat_map block_vectors all) (length-map (macro_order s) vector ∙ long) (λ j h.
    (let within : j < length (macro_order s) = omega (arith, length-map (macro_order s) vector) in
    get_or-map vector (macro_order s) j none still within ∙ by_block_at s all j (get_or (macro_order s) j none) (slice_get-get_or (macro_order s) j none within)))

-- the luma blocks have the vectors of their macro blocks
pub macro_vectors_are : (s : Shape) (all : List Motion) → AreMotions s.pf (length (macro_blocks s)) all → macro_vectors s (by_block s all) ≡ luma_of all
unfolding macro_vectors luma_vectors macro_order
macro_vectors_are s all are =
    luma_parts s.pf (λ b. get_or (by_block s all) (place_of s b) still) (macro_blocks s) all (sizes s) are.each (sym are.long) (in_order s all (both_long s.pf (macro_blocks s) all (sizes s) are.each (sym are.long)))

-- they are vectors where all are
all_vectors : (s : Shape) (vectors : List Offset) → All IsVector vectors → All (All IsVector) (macro_vectors s vectors)
unfolding macro_vectors luma_vectors
all_vectors s vectors all =
    All-map (All IsVector) (luma_vectors s vectors) (macro_blocks s) (λ k d h. All-map IsVector (λ b. get_or vectors (place_of s b) still) (get_or (macro_blocks s) k d).luma (λ j e i. at (place_of s (get_or (get_or (macro_blocks s) k d).luma j e))))
  where
    none : IsVector still
    none = ((omega (arith, ints), omega (arith, ints)), (omega (arith, ints), omega (arith, ints)))

    at : (place : ℕ) → IsVector (get_or vectors place still)
    at place = elim (cases_lt place (length vectors)) [
      | inl within ↦ all place still within
      | inr past ↦ rw (get_or_past vectors place still past) none
    ]

-- from the bits behind MVMODE on
abbrev CodedBack : Shape → List Bool → List ℕ → List Offset × List Bool → Type 0
CodedBack s flags modes read =
    All IsVector read.0 → (more : List Bool) → coded_vectors Fixed s flags modes (motions_code modes (macro_flags s flags) (macro_vectors s read.0) ++ more) ≡ Ok (read.0, more)

coded_back : (coding : VectorForm) (s : Shape) (flags : List Bool) (modes : List ℕ) (bits : List Bool) → length modes ≡ length (macro_blocks s) → IfOk (coded_vectors coding s flags modes bits) (CodedBack s flags modes)
unfolding coded_vectors
coded_back coding s flags modes bits count =
    go (motions coding s.pf modes (macro_flags s flags) empty bits) (motions_have coding s.pf modes (macro_flags s flags) empty bits (flags_long s flags ∙ sym count) (four_flags s flags)) (motions_back coding s.pf modes (macro_flags s flags) empty bits)
  where
    go : (read : Result (List Motion × List Bool) PacketFault) → IfOk read (HaveMotions s.pf (length modes)) → IfOk read (MotionsBack s.pf modes (macro_flags s flags) empty) → IfOk (read >>= (λ read. Ok (by_block s read.0, read.1))) (CodedBack s flags modes)
    go (Ok read) have back = λ all more.
        let are : AreMotions s.pf (length (macro_blocks s)) read.0 = rw count at have in
        let same = macro_vectors_are s read.0 are in
        let small = all_vectors s (by_block s read.0) all in
        rw (same, back (rw same at small) more) refl
    go (Err fault) have back = tt

-- the code's vectors are no larger than 31
pub are_vectors : (vectors : List Vector) → All IsVector (map offset_of vectors)
unfolding offset_of
are_vectors vectors = All-map IsVector offset_of vectors (λ k d h. ((get_or vectors k d).across, (get_or vectors k d).upwards))

-- from MVMODE on
pub vectors_read_back : (s : Shape) (flags : List Bool) (modes : List ℕ) (vectors : List Offset) (bits rest old now new : List Bool) → length modes ≡ length (macro_blocks s) → All IsVector vectors → vectors_of s flags modes bits ≡ Ok (vectors, rest)
    → now ≡ old ++ true ∷ [] → new ≡ now ++ motions_code modes (macro_flags s flags) (macro_vectors s vectors) → ReadsBack (vectors_of s flags modes) vectors old new
unfolding vectors_of vector_coding one_bit
vectors_read_back s flags modes vectors [] rest old now new count all e a b = cc
vectors_read_back s flags modes vectors (mvmode ∷ bits) rest old now new count all e a b =
    let code : List Bool = motions_code modes (macro_flags s flags) (macro_vectors s vectors) in
    let back = rw e at (coded_back (vector_coding mvmode) s flags modes bits count) in
    record { more = true ∷ code; added = b ∙ ap (λ k. k ++ code) a ∙ append_assoc old (true ∷ []) code; reads = λ more. back all more }
