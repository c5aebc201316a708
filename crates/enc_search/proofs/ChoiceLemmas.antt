-- Macro blocks for which a mode and a vector were chosen, one behind the other. `choose` cites these.
use Rattle.std.proofs.Common.{◌≡◌, ◌∙◌, inl, inr, ℕ, ◌+◌, ◌<◌, Bool, true, List, [], ◌∷◌, ◌++◌, append_assoc, length, length-append, take, replicate, get_or, Some, slice_get, refl, ap, sym, subst, arith}
use Rattle.std.specs.List.{All}
use Rattle.std.proofs.Math.ListN.{get_or-append}
use Rattle.std.proofs.lemmas.Bool.{cases_lt}
use Rattle.std.proofs.lemmas.List.{append-nil, get_or_push, length-replicate, take_all, take_more, length-take-le}
use Rattle.std.proofs.lemmas.List.Elements.{All-append, All-replicate}
use Rattle.std.proofs.lemmas.Option.{get_or_from_slice_get, same_Some, slice_get_within}
use Rattle.vid_base.specs.declared.shape.Shape.{Shape}
use Rattle.vid_geom.specs.declared.block.Block.{Block}
use Rattle.vid_geom.specs.CodedOrder.{order_of}
use Rattle.vid_geom.specs.MacroBlocks.{Area, macro_blocks}
use Rattle.vid_plane.specs.declared.frame.Frame.{Frame}
use Rattle.thr_modes.specs.Chosen.{AreChosen, AreChosenFrom, IsChosen, IsVector, memory_behind}
use Rattle.thr_modes.specs.LumaFlags.{macro_flags}
use Rattle.thr_modes.specs.Vectors.{Offset, still}
use Rattle.thr_modes.specs.Motion.{Memory, Motion, by_block, empty, same_motion}
use Rattle.thr_modes.specs.Placing.{put_all, put_motion}
use Rattle.thr_modes.proofs.BlockLemmas.{put_all_by_block}
use Rattle.thr_modes.proofs.FoldLemmas.{four_flags}
use Rattle.thr_modes.proofs.LumaLemmas.{flags_long}
use Rattle.thr_modes.proofs.MotionSizes.{HasVectors}
use Rattle.thr_frame.specs.Rebuilt.{Pair}
use Rattle.enc_search.specs.Found.{IsFound, luma_samples}
use Rattle.enc_search.specs.Searched.{IsLeast}
use Rattle.enc_search.proofs.PutLemmas.{put_all_push}

-- the flags of the macro blocks where all blocks are coded
abbrev pub all_flags : Shape → List (List Bool)
all_flags s = macro_flags s (replicate (length (order_of s)) true)

pub no_motion : Motion
no_motion = record { luma = []; chroma = [] }

-- what was chosen for a macro block
pub record IsChoice (s : Shape) (refs : Pair) (target : Frame) (mode : ℕ) (motion : Motion) (area : Area) : Type 0 where
  pub v : Offset
  pub is : motion ≡ same_motion s.pf v
  pub least : IsLeast refs target (luma_samples refs mode v) area.luma

-- what was chosen for the first macro blocks, and is remembered behind them
pub record AreFirst (s : Shape) (refs : Pair) (target : Frame) (modes : List ℕ) (memory : Memory) (vectors : List Offset) (m : ℕ) : Type 0 where
  pub motions : List Motion
  pub long : length motions ≡ m
  pub counted : length modes ≡ m
  pub small : All (λ mode. mode < 8) modes
  pub has : All (HasVectors s.pf) motions
  pub placed : vectors ≡ put_all s (replicate (length (order_of s)) still) (take m (macro_blocks s)) motions
  pub chosen : (more : List ℕ) (lumas : List (List Bool)) (rest : List Motion) → AreChosenFrom s.pf more lumas memory rest
      → AreChosenFrom s.pf (modes ++ more) (take m (all_flags s) ++ lumas) empty (motions ++ rest)
  pub each : (k : ℕ) (area : Area) → k < m → slice_get (macro_blocks s) k ≡ Some area → IsChoice s refs target (get_or modes k 0) (get_or motions k no_motion) area

-- at first
pub none_first : (s : Shape) (refs : Pair) (target : Frame) → AreFirst s refs target [] empty (replicate (length (order_of s)) still) 0
unfolding put_all
none_first s refs target = record {
  motions = [];
  long = refl;
  counted = refl;
  small = λ k d h. absurd (omega arith);
  has = λ k d h. absurd (omega arith);
  placed = refl;
  chosen = λ more lumas rest h. h;
  each = λ k area h. absurd (omega arith);
}

same_has : (pf : ℕ) (v : Offset) → HasVectors pf (same_motion pf v)
unfolding same_motion
same_has pf v = record { luma = refl; chroma = length-replicate _ v }

-- one macro block that was found
one_chosen : (pf mode : ℕ) (luma : List Bool) (memory : Memory) (refs : Pair) (target : Frame) (v : Offset) (blocks : List Block) → length luma ≡ 4 → IsFound refs target memory mode v blocks
    → IsChosen pf mode luma memory (same_motion pf v)
unfolding same_motion
one_chosen pf mode luma memory refs target v blocks four found = record {
  long = sym four;
  small = All-replicate IsVector 4 v found.allowed.vector;
  allowed = found.allowed.motion pf;
  uncoded = λ seven. absurd (omega (arith, found.allowed.small, seven));
}

behind_motion : (pf : ℕ) (v : Offset) (mode : ℕ) (memory next : Memory) (luma : List Bool) → next ≡ memory_behind mode luma memory (replicate 4 v) → next ≡ memory_behind mode luma memory (same_motion pf v).luma
unfolding same_motion
behind_motion pf v mode memory next luma h = h

All-one : {X : Type 0} (P : X → Type 0) (x : X) → P x → All P (x ∷ [])
All-one P x h = All-replicate P 1 x h

-- one macro block more
pub more_first : (s : Shape) (refs : Pair) (target : Frame) (modes : List ℕ) (memory next : Memory) (vectors new : List Offset) (m : ℕ) (area : Area) (mode : ℕ) (v : Offset) → slice_get (macro_blocks s) m ≡ Some area
    → IsFound refs target memory mode v area.luma → new ≡ put_motion s vectors area (same_motion s.pf v) → ((luma : List Bool) → next ≡ memory_behind mode luma memory (replicate 4 v))
    → AreFirst s refs target modes memory vectors m → AreFirst s refs target (modes ++ mode ∷ []) next new (m + 1)
more_first s refs target modes memory next vectors new m area mode v at found put behind first = record {
  motions = first.motions ++ motion ∷ [];
  long = omega (arith, length-append first.motions (motion ∷ []), first.long);
  counted = omega (arith, length-append modes (mode ∷ []), first.counted);
  small = All-append (λ mode. mode < 8) modes (mode ∷ []) first.small (All-one (λ mode. mode < 8) mode (omega (arith, found.allowed.small)));
  has = All-append (HasVectors s.pf) first.motions (motion ∷ []) first.has (All-one (HasVectors s.pf) motion (same_has s.pf v));
  placed = put ∙ ap (λ l. put_motion s l area motion) first.placed ∙ sym (put_all_push s old (take m areas) first.motions area motion (length-take-le m areas (omega (arith, within)) ∙ sym first.long)) ∙ ap (λ l. put_all s old l (first.motions ++ motion ∷ [])) (sym taken);
  chosen = λ more lumas rest h. rw (append_assoc modes (mode ∷ []) more, append_assoc first.motions (motion ∷ []) rest, flags_taken, append_assoc (take m flags) (luma ∷ []) lumas)
      (first.chosen (mode ∷ more) (luma ∷ lumas) (motion ∷ rest) (one_chosen s.pf mode luma memory refs target v area.luma four found, subst (λ (l : Memory). AreChosenFrom s.pf more lumas l rest) (remembered luma) h));
  each = each;
}
  where
    motion : Motion
    motion = same_motion s.pf v

    areas : List Area
    areas = macro_blocks s

    old : List Offset
    old = replicate (length (order_of s)) still

    flags : List (List Bool)
    flags = all_flags s

    within : m < length areas
    within = slice_get_within areas m area at

    taken : take (m + 1) areas ≡ take m areas ++ area ∷ []
    taken = take_more areas m area within ∙ ap (λ a. take m areas ++ a ∷ []) (get_or_from_slice_get areas m area area at)

    many : m < length flags
    many = omega (arith, within, flags_long s (replicate (length (order_of s)) true))

    luma : List Bool
    luma = get_or flags m []

    flags_taken : take (m + 1) flags ≡ take m flags ++ luma ∷ []
    flags_taken = take_more flags m [] many

    four : length luma ≡ 4
    four = four_flags s (replicate (length (order_of s)) true) m [] many

    remembered : (l : List Bool) → next ≡ memory_behind mode l memory motion.luma
    remembered l = behind_motion s.pf v mode memory next l (behind l)

    last : (k : ℕ) (a : Area) → k ≡ m → slice_get areas k ≡ Some a → IsChoice s refs target (get_or (modes ++ mode ∷ []) k 0) (get_or (first.motions ++ motion ∷ []) k no_motion) a
    last k a is e =
        let same : area ≡ a = same_Some area a (sym at ∙ ap (slice_get areas) (sym is) ∙ e) in
        rw (get_or_push modes mode 0 k (first.counted ∙ sym is), get_or_push first.motions motion no_motion k (first.long ∙ sym is)) (record { v = v; is = refl; least = rw same at found.least })

    each : (k : ℕ) (a : Area) → k < m + 1 → slice_get areas k ≡ Some a → IsChoice s refs target (get_or (modes ++ mode ∷ []) k 0) (get_or (first.motions ++ motion ∷ []) k no_motion) a
    each k a h e = elim (cases_lt k m) as (λ _. IsChoice s refs target (get_or (modes ++ mode ∷ []) k 0) (get_or (first.motions ++ motion ∷ []) k no_motion) a) [
      | inl before ↦ rw (get_or-append modes (mode ∷ []) 0 k (omega (arith, first.counted, before)), get_or-append first.motions (motion ∷ []) no_motion k (omega (arith, first.long, before))) (first.each k a before e)
      | inr past ↦ last k a (omega (arith, h, past)) e
    ]

-- all of them: the vectors by block
pub all_placed : (s : Shape) (refs : Pair) (target : Frame) (modes : List ℕ) (memory : Memory) (vectors : List Offset) (first : AreFirst s refs target modes memory vectors (length (macro_blocks s))) → vectors ≡ by_block s first.motions
all_placed s refs target modes memory vectors first =
    first.placed ∙ ap (λ l. put_all s (replicate (length (order_of s)) still) l first.motions) (take_all (length (macro_blocks s)) (macro_blocks s) (omega arith))
    ∙ put_all_by_block s (replicate (length (order_of s)) still) first.motions (length-replicate (length (order_of s)) still) (record { long = first.long; each = first.has })

-- they are chosen
pub all_chosen : (s : Shape) (refs : Pair) (target : Frame) (modes : List ℕ) (memory : Memory) (vectors : List Offset) → AreFirst s refs target modes memory vectors (length (macro_blocks s))
    → AreChosen s (replicate (length (order_of s)) true) modes vectors
all_chosen s refs target modes memory vectors first =
    let flags : List (List Bool) = macro_flags s (replicate (length (order_of s)) true) in
    let whole : take (length (macro_blocks s)) flags ≡ flags = take_all (length (macro_blocks s)) flags (omega (arith, flags_long s (replicate (length (order_of s)) true))) in
    (first.motions, rw (append-nil modes, append-nil first.motions, append-nil (take (length (macro_blocks s)) flags), whole) at (first.chosen [] [] [] tt), all_placed s refs target modes memory vectors first)
