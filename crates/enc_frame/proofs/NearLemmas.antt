-- A packet that was made for a target is near it. The calls of `Encoder` cite `near_key` and `near_inter`.
use Rattle.std.proofs.Common.{◌≡◌, ◌∙◌, ◌&&◌, not, ℕ, ◌<◌, ◌*◌, ◌+ℤ◌, ◌-ℤ◌, Bool, true, false, List, length, replicate, get_or, Option, Some, is_some, refl, sym, ap, subst}
use Rattle.std.specs.List.{All}
use Rattle.std.proofs.lemmas.Bool.{true≢false}
use Rattle.std.proofs.lemmas.List.{get_or-replicate}
use Rattle.std.proofs.lemmas.List.Elements.{Contains-get_or}
use Rattle.vid_base.specs.declared.shape.Shape.{Shape}
use Rattle.vid_geom.specs.declared.block.Block.{Block}
use Rattle.vid_geom.specs.CodedOrder.{IsBlock, order_of, place_of}
use Rattle.vid_geom.specs.MacroBlocks.{Area, macro_blocks}
use Rattle.vid_geom.specs.ByBlock.{macro_place}
use Rattle.vid_geom.proofs.ListLemmas.{slice_get-Contains}
use Rattle.vid_geom.proofs.OrderLemmas.{place_below}
use Rattle.vid_plane.specs.declared.frame.Frame.{Frame}
use Rattle.thr_setup.specs.Setup.{Contents}
use Rattle.thr_modes.specs.Vectors.{Offset}
use Rattle.thr_dct.specs.Forward.{forward_of}
use Rattle.thr_dct.specs.Line.{entry}
use Rattle.thr_frame.specs.CodedFrame.{CodedFrame, intra_mode}
use Rattle.thr_frame.specs.Parsed.{needs_frame}
use Rattle.thr_frame.specs.Rebuilt.{Pair, mode_at, predictor_at}
use Rattle.thr_frame.specs.Step.{pair_of}
use Rattle.thr_frame.proofs.OwnLemmas.{owner}
use Rattle.thr_frame.proofs.PredictorLemmas.{flat_is}
use Rattle.enc_search.specs.ChosenFrame.{chosen_frame}
use Rattle.enc_search.specs.Searched.{Samples, IsLeast, IsSearched, block_distance, block_samples, luma_distance}
use Rattle.enc_search.proofs.LumaLemmas.{luma_inside}
use Rattle.enc_search.proofs.SumLemmas.{same_sum}
use Rattle.enc_near.specs.Near.{IsNearBlock, IsNearFrame, IsNearest, block_matrix, coefficient, dc_predictor, fewest, lacking, most, prediction}
use Rattle.enc_frame.specs.Drafted.{IsDraft}
use Rattle.enc_frame.specs.Near.{Near}
use Rattle.enc_frame.proofs.StateLemmas.{frame_says}

-- where all blocks are coded, each has the predicted samples of a coded one
whole_prediction : (s : Shape) (refs : Pair) (c : CodedFrame) (b : Block) → c.flags ≡ replicate (length (order_of s)) true → IsBlock s b → prediction s refs c b ≡ predictor_at s refs c b
unfolding prediction
whole_prediction s refs c b whole is =
    let flag : get_or c.flags (place_of s b) false ≡ true = ap (λ (l : List Bool). get_or l (place_of s b) false) whole ∙ get_or-replicate (length (order_of s)) (place_of s b) true false (place_below s b is) in
    rw flag refl

-- those of an intra block are the same from all frames
intra_prediction : (s : Shape) (p q : Pair) (c : CodedFrame) (b : Block) → c.flags ≡ replicate (length (order_of s)) true → c.modes ≡ replicate (length (macro_blocks s)) intra_mode → IsBlock s b
    → prediction s p c b ≡ prediction s q c b
intra_prediction s p q c b whole intra is =
    let mode : mode_at s c b ≡ 1 = ap (λ (l : List ℕ). get_or l (macro_place s b) 0) intra ∙ get_or-replicate (length (macro_blocks s)) (macro_place s b) intra_mode 0 (owner s b is).below in
    whole_prediction s p c b whole is ∙ sym (flat_is s p c b 1 mode refl) ∙ flat_is s q c b 1 mode refl ∙ sym (whole_prediction s q c b whole is)

-- a block is near where its predicted samples are the same
near_block : (setup : Contents) (s : Shape) (p q : Pair) (target : Frame) (c : CodedFrame) (b : Block) → prediction s p c b ≡ prediction s q c b → IsNearBlock setup s p target c b → IsNearBlock setup s q target c b
near_block setup s p q target c b same near = record {
  others = λ k low high.
      subst (λ (P : Samples). IsNearest (entry (forward_of (lacking (block_samples target b) P)) k) (get_or (block_matrix setup s c b) k 0) fewest most (coefficient s c b k)) same (near.others k low high);
  dc = λ coded.
      subst (λ (P : Samples). IsNearest (entry (forward_of (lacking (block_samples target b) P)) 0) (get_or (block_matrix setup s c b) 0 0) (dc_predictor s c b -ℤ most) (dc_predictor s c b +ℤ most) (coefficient s c b 0)) same (near.dc coded);
  uncoded = λ coded.
      subst (λ (P : Samples). IsNearest (entry (forward_of (lacking (block_samples target b) P)) 0) (get_or (block_matrix setup s c b) 0 0) fewest most (coefficient s c b 0)) same (near.uncoded coded);
}

-- a packet that needs no frame is near from every state
pub near_key : (setup : Contents) (s : Shape) (refs : Pair) (state : Option Pair) (target : Frame) (qi : ℕ) (mbmodes : List ℕ) (mvects : List Offset) (packet : List ℕ)
    → IsDraft setup s refs target true qi mbmodes mvects packet → mbmodes ≡ replicate (length (macro_blocks s)) intra_mode → Near setup s state target qi packet
near_key setup s refs state target qi mbmodes mvects packet d intra = record {
  coded = d.coded;
  says = frame_says setup s (is_some state) packet d.coded (no_need (not (is_some state)) (needs_frame packet) d.needs) d.some d.says;
  one = d.one;
  near = record { blocks = λ b is. near_block setup s refs (pair_of s state) target d.coded b (intra_prediction s refs (pair_of s state) d.coded b d.flags (d.modes ∙ intra) is) (d.near.blocks b is) };
  searched = λ inter. absurd (true≢false (sym d.intra ∙ inter));
}
  where
    no_need : (a b : Bool) → b ≡ false → (a && b) ≡ false
    no_need true b e = e
    no_need false b e = refl

-- predictions that agree on the blocks are equally far
distance_same : (target : Frame) (P Q : Block → Samples) (blocks : List Block) → All (λ b. P b ≡ Q b) blocks → luma_distance target P blocks ≡ luma_distance target Q blocks
unfolding luma_distance
distance_same target P Q blocks all =
    same_sum (λ b. block_distance (block_samples target b) (P b)) (λ b. block_distance (block_samples target b) (Q b)) blocks (λ k d h. ap (block_distance (block_samples target (get_or blocks k d))) (all k d h))

least_same : (refs : Pair) (target : Frame) (P Q : Block → Samples) (blocks : List Block) → All (λ b. P b ≡ Q b) blocks → IsLeast refs target Q blocks → IsLeast refs target P blocks
unfolding IsLeast
least_same refs target P Q blocks all least = rw (distance_same target P Q blocks all) least

-- the predicted samples depend on modes and vectors alone
chosen_prediction : (s : Shape) (refs : Pair) (c : CodedFrame) (b : Block) (mbmodes : List ℕ) (mvects : List Offset) → c.modes ≡ mbmodes → c.vectors ≡ mvects → predictor_at s refs c b ≡ predictor_at s refs (chosen_frame mbmodes mvects) b
unfolding predictor_at
chosen_prediction s refs c b mbmodes mvects modes vectors = rw (modes, vectors) refl

whole_searched : (s : Shape) (refs : Pair) (target : Frame) (c : CodedFrame) (mbmodes : List ℕ) (mvects : List Offset) → c.flags ≡ replicate (length (order_of s)) true → c.modes ≡ mbmodes → c.vectors ≡ mvects
    → IsSearched s refs target (λ b. predictor_at s refs (chosen_frame mbmodes mvects) b) → IsSearched s refs target (prediction s refs c)
whole_searched s refs target c mbmodes mvects whole modes vectors found = record {
  least = λ area among.
      (let at = slice_get-Contains (macro_blocks s) area among in
      least_same refs target (prediction s refs c) (λ b. predictor_at s refs (chosen_frame mbmodes mvects) b) area.luma
      (λ k d h. whole_prediction s refs c (get_or area.luma k d) whole (luma_inside s at.0 area (get_or area.luma k d) at.1 (Contains-get_or area.luma k d h)) ∙ chosen_prediction s refs c (get_or area.luma k d) mbmodes mvects modes vectors)
      (found.least area among));
}

-- any other is near from the state whose frames it was made from
pub near_inter : (setup : Contents) (s : Shape) (pair : Pair) (target : Frame) (qi : ℕ) (mbmodes : List ℕ) (mvects : List Offset) (packet : List ℕ)
    → IsDraft setup s pair target false qi mbmodes mvects packet → IsSearched s pair target (λ b. predictor_at s pair (chosen_frame mbmodes mvects) b) → Near setup s (Some pair) target qi packet
near_inter setup s pair target qi mbmodes mvects packet d found = record {
  coded = d.coded;
  says = frame_says setup s true packet d.coded refl d.some d.says;
  one = d.one;
  near = d.near;
  searched = λ inter. whole_searched s pair target d.coded mbmodes mvects d.flags d.modes d.vectors found;
}
