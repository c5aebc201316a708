-- The motion vectors of the macro blocks of a frame, and of its blocks (Theora I, 7.5.2). s is the frame's shape, pf its
-- pixel format; luma has the flags of a macro block's luma blocks in raster order from the lower left, as in LumaFlags.
use Rattle.std.specs.Prelude.{ℕ, ℤ, pos, ◌+ℤ◌, ◌*◌, ◌==◌, Bool, List, [], ◌∷◌, ◌++◌, map, length, take, drop, replicate, get_or, Result, Ok, if◌then◌else◌}
use Rattle.std.specs.List.{fold, flat_map, position_or_len}
use Rattle.vid_base.specs.declared.shape.Shape.{Shape}
use Rattle.vid_base.specs.declared.fault.PacketFault.{PacketFault}
use Rattle.vid_base.specs.Arithmetic.{rounded}
use Rattle.vid_base.specs.Reading.{◌>>=◌, one_bit}
use Rattle.vid_geom.specs.CodedOrder.{order_of, same_block}
use Rattle.vid_geom.specs.MacroBlocks.{columns_in, rows_in, macro_order}
use Rattle.thr_modes.specs.Forms.{VectorForm, Prefixed, Fixed}
use Rattle.thr_modes.specs.InOrder.{each}
use Rattle.thr_modes.specs.LumaFlags.{macro_flags}
use Rattle.thr_modes.specs.Vectors.{Offset, still, vector_in}

-- the vectors of a macro block: those of its luma blocks, and those of its Cb blocks, which its Cr blocks have too
pub record Motion : Type 0 where
  pub luma : List Offset
  pub chroma : List Offset

-- the vectors of all its blocks, as `area_blocks` has them
unfoldable pub block_vectors : Motion → List Offset
block_vectors motion = motion.luma ++ motion.chroma ++ motion.chroma

-- how many blocks of Cb, and of Cr, a macro block has
abbrev pub chroma_count : ℕ → ℕ
chroma_count pf = columns_in pf 1 * rows_in pf 1

-- one vector for all blocks
unfoldable pub same_motion : ℕ → Offset → Motion
same_motion pf v = record { luma = replicate 4 v; chroma = replicate (chroma_count pf) v }

-- the sum of numbers
abbrev pub total : List ℤ → ℤ
total numbers = fold ◌+ℤ◌ (pos 0) numbers

-- the mean of vectors, by component to the nearest whole number and halves away from zero
unfoldable pub mean : List Offset → Offset
mean vectors = record { x = rounded (total (map (λ v. v.x) vectors)) (pos (length vectors)); y = rounded (total (map (λ v. v.y) vectors)) (pos (length vectors)) }

-- chroma vectors from four of luma: in 4:2:0 the mean of them all, in 4:4:4 the luma block's at its place, and in 4:2:2
-- the means of the lower two and of the upper two
unfoldable pub chroma_of : ℕ → List Offset → List Offset
chroma_of pf luma =
    if pf == 0 then mean luma ∷ []
    else if pf == 3 then luma
    else mean (take 2 luma) ∷ mean (drop 2 luma) ∷ []

-- a vector for each luma block
unfoldable pub own_motion : ℕ → List Offset → Motion
own_motion pf vectors = record { luma = vectors; chroma = chroma_of pf vectors }

-- the vectors that are remembered from macro block to macro block: LAST1 and LAST2
pub record Memory : Type 0 where
  pub last1 : Offset
  pub last2 : Offset

-- nothing is remembered
abbrev pub empty : Memory
empty = record { last1 = still; last2 = still }

-- LAST1 becomes LAST2, and a vector becomes LAST1
unfoldable pub after : Offset → Memory → Memory
after v memory = record { last1 = v; last2 = memory.last1 }

-- they change places
unfoldable pub exchanged : Memory → Memory
exchanged memory = record { last1 = memory.last2; last2 = memory.last1 }

-- the vector of a luma block that may have one of its own: an uncoded one has none, and nothing is read
unfoldable pub own_vector : VectorForm → Bool → List Bool → Result (Offset × List Bool) PacketFault
own_vector coding coded bits = if coded then vector_in coding bits else Ok (still, bits)

-- the vector of the last coded block; another one where none is coded
unfoldable pub last_coded : List Bool → List Offset → Offset → Offset
last_coded [] vectors v = v
last_coded (coded ∷ luma) [] v = v
last_coded (coded ∷ luma) (vector ∷ vectors) v = last_coded luma vectors (if coded then vector else v)

-- the vectors of a macro block by its mode, and what is remembered behind it; where mode 7 reads no vector LAST1 stays
unfoldable pub motion_in : VectorForm → ℕ → ℕ → List Bool → Memory → List Bool → Result ((Motion × Memory) × List Bool) PacketFault
motion_in coding pf mode luma memory bits =
    if mode == 2 then vector_in coding bits >>= (λ v. Ok ((same_motion pf v.0, after v.0 memory), v.1))
    else if mode == 3 then Ok ((same_motion pf memory.last1, memory), bits)
    else if mode == 4 then Ok ((same_motion pf memory.last2, exchanged memory), bits)
    else if mode == 6 then vector_in coding bits >>= (λ v. Ok ((same_motion pf v.0, memory), v.1))
    else if mode == 7 then each (own_vector coding) luma bits >>= (λ vs. Ok ((own_motion pf vs.0, after (last_coded luma vs.0 memory.last1) memory), vs.1))
    else Ok ((same_motion pf still, memory), bits)

-- those of macro blocks one behind the other
unfoldable pub motions : VectorForm → ℕ → List ℕ → List (List Bool) → Memory → List Bool → Result (List Motion × List Bool) PacketFault
motions coding pf [] lumas memory bits = Ok ([], bits)
motions coding pf (mode ∷ modes) [] memory bits = Ok ([], bits)
motions coding pf (mode ∷ modes) (luma ∷ lumas) memory bits =
    motion_in coding pf mode luma memory bits >>= (λ first. motions coding pf modes lumas first.0.1 first.1 >>= (λ others. Ok (first.0.0 ∷ others.0, others.1)))

-- the vector of each block in coded order: it stands among the vectors of the macro blocks where the block stands among
-- their blocks
unfoldable pub by_block : Shape → List Motion → List Offset
by_block s motions = map (λ b. get_or (flat_map block_vectors motions) (position_or_len (same_block b) (macro_order s)) still) (order_of s)

-- the vectors of all blocks of a frame in coded order, from the bits behind MVMODE; nothing is remembered at first
unfoldable pub coded_vectors : VectorForm → Shape → List Bool → List ℕ → List Bool → Result (List Offset × List Bool) PacketFault
coded_vectors coding s flags modes bits = motions coding s.pf modes (macro_flags s flags) empty bits >>= (λ read. Ok (by_block s read.0, read.1))

-- how vectors are coded under MVMODE
unfoldable pub vector_coding : Bool → VectorForm
vector_coding mvmode = if mvmode then Fixed else Prefixed

-- the vectors of all blocks, from MVMODE on
unfoldable pub vectors_of : Shape → List Bool → List ℕ → List Bool → Result (List Offset × List Bool) PacketFault
vectors_of s flags modes bits = one_bit bits >>= (λ mvmode. coded_vectors (vector_coding mvmode.0) s flags modes mvmode.1)
