-- What was chosen predicts the luma of each macro block no worse than the candidates. `choose` cites the last one.
use Rattle.std.proofs.Common.{◌≡◌, ◌∙◌, ℕ, ◌<◌, ◌++◌, List, [], length, map, replicate, get_or, Some, slice_get, refl, ap, sym, arith}
use Rattle.std.specs.List.{All, Contains}
use Rattle.std.proofs.lemmas.List.{get_or-map, get_or-replicate, length-map}
use Rattle.std.proofs.lemmas.List.Elements.{Contains-append_left, Contains-get_or}
use Rattle.std.proofs.lemmas.Option.{get_or_from_slice_get, slice_get_within}
use Rattle.vid_base.specs.declared.shape.Shape.{Shape}
use Rattle.vid_geom.specs.declared.block.Block.{Block}
use Rattle.vid_geom.specs.CodedOrder.{place_of}
use Rattle.vid_geom.specs.MacroBlocks.{Area, macro_blocks}
use Rattle.vid_geom.proofs.ByBlockLemmas.{macro_place_is}
use Rattle.vid_geom.proofs.ListLemmas.{slice_get-Contains}
use Rattle.vid_plane.specs.declared.frame.Frame.{Frame}
use Rattle.thr_modes.specs.Vectors.{Offset, still}
use Rattle.thr_modes.specs.Motion.{Memory, Motion, same_motion}
use Rattle.thr_modes.specs.WrittenVectors.{luma_vectors, macro_vectors}
use Rattle.thr_modes.proofs.AreaLemmas.{sizes_at}
use Rattle.thr_modes.proofs.FrameBack.{macro_vectors_are}
use Rattle.thr_frame.specs.CodedFrame.{CodedFrame}
use Rattle.thr_frame.specs.Rebuilt.{Pair, mode_at, predictor_at}
use Rattle.enc_search.specs.ChosenFrame.{chosen_frame}
use Rattle.enc_search.specs.Found.{luma_samples}
use Rattle.enc_search.specs.Searched.{Samples, IsLeast, IsSearched, block_distance, block_samples, luma_distance}
use Rattle.enc_search.proofs.SumLemmas.{same_sum}
use Rattle.enc_search.proofs.LumaLemmas.{luma_inside, luma_plane}
use Rattle.enc_search.proofs.ChoiceLemmas.{AreFirst, all_placed, no_motion}

-- predictions that agree on the blocks are equally far
distance_same : (target : Frame) (P Q : Block → Samples) (blocks : List Block) → All (λ b. P b ≡ Q b) blocks → luma_distance target P blocks ≡ luma_distance target Q blocks
unfolding luma_distance
distance_same target P Q blocks all =
    same_sum (λ b. block_distance (block_samples target b) (P b)) (λ b. block_distance (block_samples target b) (Q b)) blocks (λ k d h. ap (block_distance (block_samples target (get_or blocks k d))) (all k d h))

least_same : (refs : Pair) (target : Frame) (P Q : Block → Samples) (blocks : List Block) → All (λ b. P b ≡ Q b) blocks → IsLeast refs target Q blocks → IsLeast refs target P blocks
unfolding IsLeast
least_same refs target P Q blocks all least = rw (distance_same target P Q blocks all) least

-- the predictor of a luma block by its mode and vector
led_same : (s : Shape) (refs : Pair) (c : CodedFrame) (b : Block) (mode : ℕ) (v : Offset) → b.pli ≡ 0 → mode_at s c b ≡ mode → get_or c.vectors (place_of s b) still ≡ v → predictor_at s refs c b ≡ luma_samples refs mode v b
unfolding predictor_at luma_samples
led_same s refs c b mode v plane m at = rw (m, at, plane) refl

-- the luma blocks of a macro block have its vector
own_vectors : (s : Shape) (refs : Pair) (target : Frame) (modes : List ℕ) (memory : Memory) (vectors : List Offset) (k : ℕ) (area : Area) (v : Offset) (first : AreFirst s refs target modes memory vectors (length (macro_blocks s)))
    → slice_get (macro_blocks s) k ≡ Some area → get_or first.motions k no_motion ≡ same_motion s.pf v → luma_vectors s vectors area ≡ replicate 4 v
unfolding macro_vectors same_motion
own_vectors s refs target modes memory vectors k area v first at is =
    let areas : List Area = macro_blocks s in
    let within : k < length areas = slice_get_within areas k area at in
    let many : k < length first.motions = omega (arith, within, first.long) in
    let all : map (luma_vectors s vectors) areas ≡ map (λ motion. motion.luma) first.motions =
    ap (macro_vectors s) (all_placed s refs target modes memory vectors first) ∙ macro_vectors_are s first.motions (record { long = first.long; each = first.has }) in
    let left : get_or (map (luma_vectors s vectors) areas) k [] ≡ luma_vectors s vectors area =
    get_or-map (luma_vectors s vectors) areas k area [] within ∙ ap (luma_vectors s vectors) (get_or_from_slice_get areas k area area at) in
    let right : get_or (map (λ (motion : Motion). motion.luma) first.motions) k [] ≡ (get_or first.motions k no_motion).luma = get_or-map (λ (motion : Motion). motion.luma) first.motions k no_motion [] many in
    sym left ∙ ap (λ (l : List (List Offset)). get_or l k []) all ∙ right ∙ ap (λ (m : Motion). m.luma) is

-- and so are predicted by it
own_samples : (s : Shape) (refs : Pair) (target : Frame) (modes : List ℕ) (memory : Memory) (vectors : List Offset) (k : ℕ) (area : Area) (v : Offset) (first : AreFirst s refs target modes memory vectors (length (macro_blocks s)))
    → slice_get (macro_blocks s) k ≡ Some area → get_or first.motions k no_motion ≡ same_motion s.pf v → All (λ b. predictor_at s refs (chosen_frame modes vectors) b ≡ luma_samples refs (get_or modes k 0) v b) area.luma
unfolding luma_vectors
own_samples s refs target modes memory vectors k area v first at is = λ j d h.
    let b : Block = get_or area.luma j d in
    let among : Contains area.luma b = Contains-get_or area.luma j d h in
    let four : length area.luma ≡ 4 = (sizes_at s k area at).luma in
    let small : j < 4 = omega (arith, four, h) in
    let placed : place_of s b ≡ get_or (map (place_of s) area.luma) j 0 = sym (get_or-map (place_of s) area.luma j d 0 h) in
    let plane : b.pli ≡ 0 = luma_plane s k j area (map (place_of s) area.luma) b at refl (length-map area.luma (place_of s) ∙ four) small (luma_inside s k area b at among) placed in
    let own = macro_place_is s k area b at (Contains-append_left (area.luma ++ area.cb) area.cr b (Contains-append_left area.luma area.cb b among)) in
    let vector : get_or vectors (place_of s b) still ≡ v =
    sym (get_or-map (λ b. get_or vectors (place_of s b) still) area.luma j d still h) ∙ ap (λ (l : List Offset). get_or l j still) (own_vectors s refs target modes memory vectors k area v first at is) ∙ get_or-replicate 4 j v still small in
    led_same s refs (chosen_frame modes vectors) b (get_or modes k 0) v plane (ap (λ n. get_or modes n 0) own) vector

pub all_searched : (s : Shape) (refs : Pair) (target : Frame) (modes : List ℕ) (memory : Memory) (vectors : List Offset) → AreFirst s refs target modes memory vectors (length (macro_blocks s))
    → IsSearched s refs target (λ b. predictor_at s refs (chosen_frame modes vectors) b)
all_searched s refs target modes memory vectors first = record {
  least = λ area among.
      (let found = slice_get-Contains (macro_blocks s) area among in
      let choice = first.each found.0 area (slice_get_within (macro_blocks s) found.0 area found.1) found.1 in
      least_same refs target (λ b. predictor_at s refs (chosen_frame modes vectors) b) (luma_samples refs (get_or modes found.0 0) choice.v) area.luma
      (own_samples s refs target modes memory vectors found.0 area choice.v first found.1 choice.is) choice.least);
}
