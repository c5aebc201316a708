-- Where all blocks are coded: no macro block is without a coded block, and what is written for flags, modes and vectors is read as them.
-- `write_inter`, `write_motion` and `write_residue` cite these.
use Rattle.std.proofs.Common.{◌≡◌, ◌∙◌, ℕ, zero, suc, ◌<◌, Bool, true, false, List, [], ◌++◌, length, get_or, map, replicate, refl, sym, arith, append_assoc}
use Rattle.std.specs.Prelude.{ℤ}
use Rattle.std.specs.List.{All, list_any}
use Rattle.std.proofs.lemmas.List.{append-nil, get_or-map, get_or-replicate, length-map, length-replicate}
use Rattle.std.proofs.lemmas.List.Elements.{All-map}
use Rattle.std.proofs.lemmas.List.Folds.{list_any_at}
use Rattle.std.proofs.lemmas.Option.{slice_get-get_or}
use Rattle.vid_base.specs.declared.shape.Shape.{Shape}
use Rattle.vid_base.specs.Writing.{ReadsBack}
use Rattle.vid_geom.specs.declared.block.Block.{Block}
use Rattle.vid_geom.specs.Squares.{Cell, cells}
use Rattle.vid_geom.specs.CodedOrder.{IsBlock, order_of, place_of}
use Rattle.vid_geom.specs.MacroBlocks.{area_at, blocks_in, macro_blocks, macro_grid}
use Rattle.vid_geom.proofs.ListLemmas.{All-at}
use Rattle.vid_geom.proofs.MacroBlockLemmas.{blocks_in_inside, length-blocks_in, macro_cell_inside, some_blocks}
use Rattle.vid_geom.proofs.OrderLemmas.{place_below}
use Rattle.thr_flags.specs.Flags.{flags_of}
use Rattle.thr_modes.specs.LumaFlags.{luma_flags, macro_flags, some_coded}
use Rattle.thr_modes.specs.Modes.{ZeroWhereUncoded, modes_of}
use Rattle.thr_modes.specs.Vectors.{Offset, still}
use Rattle.thr_modes.specs.Motion.{vectors_of}
use Rattle.thr_token.specs.Tokenised.{AreBlank}
use Rattle.thr_frame.specs.CodedFrame.{intra_mode}
use Rattle.thr_frame.specs.Parsed.{motion_behind, motion_of}

-- flags of blocks that are all coded
abbrev pub all_coded : Shape → List Bool
all_coded s = replicate (length (order_of s)) true

-- those of the luma blocks of a macro block
luma_coded : (s : Shape) (c : Cell) → (c.col < s.fmbw) × (c.row < s.fmbh) → some_coded (luma_flags s (all_coded s) (area_at s.pf c)) ≡ true
unfolding luma_flags area_at
luma_coded s c within =
    let none : Block = record { pli = 0; col = 0; row = 0 } in
    let blocks : List Block = blocks_in s.pf 0 c in
    let some : 0 < length blocks = omega (arith, length-blocks_in s.pf 0 c) in
    let inside : IsBlock s (get_or blocks 0 none) = blocks_in_inside s 0 c (omega arith) within.0 within.1 0 none some in
    let flag : Block → Bool = λ b. get_or (all_coded s) (place_of s b) false in
    list_any_at (λ coded. coded) (map flag blocks) 0 false (omega (arith, length-map blocks flag))
    (get_or-map flag blocks 0 none false some ∙ get_or-replicate (length (order_of s)) (place_of s (get_or blocks 0 none)) true false (place_below s (get_or blocks 0 none) inside))

macro_coded : (s : Shape) → All (λ luma. some_coded luma ≡ true) (macro_flags s (all_coded s))
unfolding macro_flags macro_blocks
macro_coded s =
    All-map (λ luma. some_coded luma ≡ true) (luma_flags s (all_coded s)) (map (area_at s.pf) (cells (macro_grid s)))
    (All-map (λ area. some_coded (luma_flags s (all_coded s) area) ≡ true) (area_at s.pf) (cells (macro_grid s))
    (λ k c lt. luma_coded s (get_or (cells (macro_grid s)) k c) (macro_cell_inside s k (get_or (cells (macro_grid s)) k c) (slice_get-get_or (cells (macro_grid s)) k c lt))))

pub none_uncoded : (s : Shape) (flags : List Bool) (modes : List ℕ) → flags ≡ all_coded s → ZeroWhereUncoded (macro_flags s flags) modes
none_uncoded s flags modes all = rw all (λ m luma at uncoded. let coded : some_coded luma ≡ true = All-at (λ luma. some_coded luma ≡ true) (macro_flags s (all_coded s)) m luma at (macro_coded s) in cc)

-- a frame has a coded block
pub any_coded : (s : Shape) (flags : List Bool) → flags ≡ all_coded s → list_any (λ coded. coded) flags ≡ true
any_coded s flags all =
    rw all (list_any_at (λ coded. coded) (all_coded s) 0 false (omega (arith, length-replicate (length (order_of s)) true, some_blocks s)) (get_or-replicate (length (order_of s)) 0 true false (some_blocks s)))

-- and none that is not
coded_at : (n b : ℕ) → get_or (replicate n true) b true ≡ true
coded_at zero b = refl
coded_at (suc n) zero = refl
coded_at (suc n) (suc b) = coded_at n b

pub none_blank : (s : Shape) (flags : List Bool) (values : List (List ℤ)) → flags ≡ all_coded s → AreBlank flags values
none_blank s flags values all = rw all (λ b uncoded. let coded : get_or (all_coded s) b true ≡ true = coded_at (length (order_of s)) b in cc)

-- flags, modes and vectors of an inter frame
pub inter_back : (s : Shape) (flags : List Bool) (modes : List ℕ) (vectors : List Offset) (old one two new : List Bool) → flags ≡ all_coded s
    → ReadsBack (flags_of s) flags old one → ReadsBack (modes_of s flags) modes one two → ReadsBack (vectors_of s flags modes) vectors two new
    → ReadsBack (motion_of s false) (record { flags = flags; modes = modes; vectors = vectors }) old new
unfolding motion_of motion_behind
inter_back s flags modes vectors old one two new all f m v = record {
  more = f.more ++ (m.more ++ v.more);
  added = rw (v.added, m.added, f.added) (simp append_assoc);
  reads = λ rest.
      rw (append_assoc f.more (m.more ++ v.more) rest, f.reads ((m.more ++ v.more) ++ rest), append_assoc m.more v.more rest, any_coded s flags all, m.reads (v.more ++ rest), v.reads rest) refl;
}

-- those of an intra frame
pub intra_back : (s : Shape) (flags : List Bool) (modes : List ℕ) (vectors : List Offset) (old : List Bool) → flags ≡ all_coded s
    → modes ≡ replicate (length (macro_blocks s)) intra_mode → vectors ≡ replicate (length (order_of s)) still
    → ReadsBack (motion_of s true) (record { flags = flags; modes = modes; vectors = vectors }) old old
unfolding motion_of
intra_back s flags modes vectors old f m v = record { more = []; added = sym (append-nil old); reads = λ rest. rw (f, m, v) refl }
