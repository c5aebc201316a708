-- The loop over macro blocks: what was read and put, and the definition on what is left, is the definition on the whole.
-- The readers of vectors cite these.
use Rattle.std.proofs.Common.{◌≡◌, ◌∙◌, ℕ, ◌+◌, ◌≤◌, Bool, List, ◌∷◌, length, drop, Result, Ok, Err, IfOk, Some, slice_get, refl, ap, sym}
use Rattle.std.specs.List.{All}
use Rattle.std.proofs.lemmas.List.{drop_all, length-map}
use Rattle.std.proofs.lemmas.List.Elements.{All-map, All-weaker}
use Rattle.vid_base.specs.declared.shape.Shape.{Shape}
use Rattle.vid_base.specs.declared.fault.PacketFault.{PacketFault}
use Rattle.vid_base.specs.Reading.{◌>>=◌}
use Rattle.vid_geom.specs.CodedOrder.{order_of}
use Rattle.vid_geom.specs.MacroBlocks.{Area, macro_blocks}
use Rattle.thr_modes.specs.Forms.{VectorForm}
use Rattle.thr_modes.specs.LumaFlags.{luma_flags, macro_flags}
use Rattle.thr_modes.specs.Vectors.{Offset}
use Rattle.thr_modes.specs.Motion.{Motion, Memory, empty, motion_in, motions, by_block, coded_vectors}
use Rattle.thr_modes.specs.Placing.{put_motion, put_all}
use Rattle.thr_modes.proofs.AreaLemmas.{HasSizes, sizes}
use Rattle.thr_modes.proofs.BlockLemmas.{put_all_by_block}
use Rattle.thr_modes.proofs.EachLemmas.{drop_at}
use Rattle.thr_modes.proofs.LumaLemmas.{flags_long}
use Rattle.thr_modes.proofs.MotionSizes.{HaveMotions, motions_have}

-- motions that are read are put in the places of the macro blocks that are left
abbrev pub put_read : Shape → List Offset → List Area → Result (List Motion × List Bool) PacketFault → Result (List Offset × List Bool) PacketFault
put_read s vectors areas read = read >>= (λ read. Ok (put_all s vectors areas read.0, read.1))

regroup : (s : Shape) (vectors : List Offset) (area : Area) (areas : List Area) (motion : Motion) (read : Result (List Motion × List Bool) PacketFault)
    → put_read s (put_motion s vectors area motion) areas read ≡ put_read s vectors (area ∷ areas) (read >>= (λ others. Ok (motion ∷ others.0, others.1)))
unfolding put_all
regroup s vectors area areas motion (Ok y) = refl
regroup s vectors area areas motion (Err fault) = refl

-- one macro block more
pub motions_more : (coding : VectorForm) (s : Shape) (modes : List ℕ) (lumas : List (List Bool)) (areas : List Area) (vectors : List Offset) (m mode : ℕ) (luma : List Bool) (area : Area) (memory next : Memory) (motion : Motion) (left rest : List Bool)
    → slice_get modes m ≡ Some mode → slice_get lumas m ≡ Some luma → slice_get areas m ≡ Some area → motion_in coding s.pf mode luma memory left ≡ Ok ((motion, next), rest)
    → put_read s (put_motion s vectors area motion) (drop (m + 1) areas) (motions coding s.pf (drop (m + 1) modes) (drop (m + 1) lumas) next rest)
    ≡ put_read s vectors (drop m areas) (motions coding s.pf (drop m modes) (drop m lumas) memory left)
unfolding motions
motions_more coding s modes lumas areas vectors m mode luma area memory next motion left rest a b c e =
    rw (drop_at modes m mode a, drop_at lumas m luma b, drop_at areas m area c, e) (regroup s vectors area (drop (m + 1) areas) motion (motions coding s.pf (drop (m + 1) modes) (drop (m + 1) lumas) next rest))

-- a fault in place of a motion
pub motions_fault : (coding : VectorForm) (s : Shape) (modes : List ℕ) (lumas : List (List Bool)) (areas : List Area) (vectors : List Offset) (m mode : ℕ) (luma : List Bool) (memory : Memory) (left : List Bool) (fault : PacketFault)
    → slice_get modes m ≡ Some mode → slice_get lumas m ≡ Some luma → motion_in coding s.pf mode luma memory left ≡ Err fault
    → put_read s vectors (drop m areas) (motions coding s.pf (drop m modes) (drop m lumas) memory left) ≡ Err fault
unfolding motions
motions_fault coding s modes lumas areas vectors m mode luma memory left fault a b e = rw (drop_at modes m mode a, drop_at lumas m luma b, e) refl

-- no macro block more
pub motions_done : (coding : VectorForm) (s : Shape) (modes : List ℕ) (lumas : List (List Bool)) (areas : List Area) (vectors : List Offset) (m : ℕ) (memory : Memory) (left : List Bool) → length modes ≤ m → length areas ≤ m
    → put_read s vectors (drop m areas) (motions coding s.pf (drop m modes) (drop m lumas) memory left) ≡ Ok (vectors, left)
unfolding motions put_all
motions_done coding s modes lumas areas vectors m memory left a b = rw (drop_all m modes a, drop_all m areas b) refl

-- each macro block has the flags of four luma blocks
pub four_flags : (s : Shape) (flags : List Bool) → All (λ luma. length luma ≡ 4) (macro_flags s flags)
unfolding macro_flags luma_flags
four_flags s flags =
    All-map (λ luma. length luma ≡ 4) (luma_flags s flags) (macro_blocks s)
    (All-weaker (HasSizes s.pf) (λ area. length (luma_flags s flags area) ≡ 4) (λ area has. length-map area.luma _ ∙ has.luma) (macro_blocks s) (sizes s))

-- all that is to be read and put, by block
pub motions_first : (coding : VectorForm) (s : Shape) (flags : List Bool) (modes : List ℕ) (vectors : List Offset) (bits : List Bool) → length vectors ≡ length (order_of s) → length modes ≡ length (macro_blocks s)
    → put_read s vectors (macro_blocks s) (motions coding s.pf modes (macro_flags s flags) empty bits) ≡ coded_vectors coding s flags modes bits
unfolding coded_vectors
motions_first coding s flags modes vectors bits long count =
    go (motions coding s.pf modes (macro_flags s flags) empty bits) (motions_have coding s.pf modes (macro_flags s flags) empty bits (flags_long s flags ∙ sym count) (four_flags s flags))
  where
    go : (read : Result (List Motion × List Bool) PacketFault) → IfOk read (HaveMotions s.pf (length modes)) → put_read s vectors (macro_blocks s) read ≡ (read >>= (λ read. Ok (by_block s read.0, read.1)))
    go (Ok read) have = ap (λ all. Ok (all, read.1)) (put_all_by_block s vectors read.0 long (rw count at have))
    go (Err fault) have = refl
