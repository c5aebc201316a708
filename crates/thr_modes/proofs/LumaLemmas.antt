-- The flags of a macro block's luma blocks by its numbers. `luma_flags` cites these.
use Rattle.std.proofs.Common.{◌≡◌, ◌∙◌, ℕ, ◌+◌, Bool, false, List, ◌++◌, length, map, get_or, All, Option, Some, None, slice_get, IsSomeAnd, refl, ap, sym, subst, arith, length-append}
use Rattle.std.specs.Option.{option_map}
use Rattle.std.proofs.lemmas.List.{get_or-append-add, length-map}
use Rattle.std.proofs.lemmas.Option.{slice_get-map}
use Rattle.std.proofs.Math.ListN.{get_or-append}
use Rattle.std.proofs.lemmas.Simd.{map-map}
use Rattle.vid_base.specs.declared.shape.Shape.{Shape}
use Rattle.vid_geom.specs.declared.block.MacroBlock.{MacroBlock}
use Rattle.vid_geom.specs.CodedOrder.{place_of}
use Rattle.vid_geom.specs.MacroBlocks.{Area, macro_blocks, IsMacroBlock}
use Rattle.thr_modes.specs.LumaFlags.{luma_flags, macro_flags}

-- what holds of all elements of two lists holds of those of the first
pub All-left : {X : Type 0} (P : X → Type 0) (xs ys : List X) → All P (xs ++ ys) → All P xs
All-left P xs ys all k d h =
    let e : get_or (xs ++ ys) k d ≡ get_or xs k d = get_or-append xs ys d k h in
    subst P e (all k d (omega (arith, length-append xs ys)))

-- and of those of the second
pub All-right : {X : Type 0} (P : X → Type 0) (xs ys : List X) → All P (xs ++ ys) → All P ys
All-right P xs ys all k d h = subst P (get_or-append-add xs ys k d) (all (length xs + k) d (omega (arith, length-append xs ys)))

-- the area that a macro block's numbers belong to
pub record HasArea (s : Shape) (m : ℕ) (numbers : MacroBlock) : Type 0 where
  pub area : Area
  pub at : slice_get (macro_blocks s) m ≡ Some area
  pub is : IsMacroBlock s area numbers

pub area_of : (s : Shape) (m : ℕ) (numbers : MacroBlock) → IsSomeAnd (slice_get (macro_blocks s) m) (λ area. IsMacroBlock s area numbers) → HasArea s m numbers
area_of s m numbers h = go (slice_get (macro_blocks s) m) refl h
  where
    go : (found : Option Area) → slice_get (macro_blocks s) m ≡ found → IsSomeAnd found (λ area. IsMacroBlock s area numbers) → HasArea s m numbers
    go None e h = absurd h
    go (Some area) e h = record { area = area; at = e; is = h }

-- places are those of a macro block's luma blocks
abbrev pub AreLuma : Shape → ℕ → List ℕ → Type 0
AreLuma s m places = IsSomeAnd (slice_get (macro_blocks s) m) (λ area. places ≡ map (place_of s) area.luma)

pub are_luma : (s : Shape) (m : ℕ) (numbers : MacroBlock) → IsSomeAnd (slice_get (macro_blocks s) m) (λ area. IsMacroBlock s area numbers) → AreLuma s m numbers.luma
are_luma s m numbers h = let of = area_of s m numbers h in rw of.at of.is.luma

-- what a table has at these places
pub luma_at : {X : Type 0} (s : Shape) (m : ℕ) (places : List ℕ) (value : ℕ → X) → AreLuma s m places → slice_get (map (λ area. map (λ b. value (place_of s b)) area.luma) (macro_blocks s)) m ≡ Some (map value places)
luma_at s m places value h = slice_get-map (λ area. map (λ b. value (place_of s b)) area.luma) (macro_blocks s) m ∙ go (slice_get (macro_blocks s) m) h
  where
    go : (found : Option Area) → IsSomeAnd found (λ area. places ≡ map (place_of s) area.luma) → option_map (λ area. map (λ b. value (place_of s b)) area.luma) found ≡ Some (map value places)
    go None h = absurd h
    go (Some area) h = ap Some (sym (map-map value (place_of s) area.luma) ∙ ap (map value) (sym h))

-- the flags at the places of the luma blocks
pub luma_flags_at : (s : Shape) (flags : List Bool) (m : ℕ) (places : List ℕ) → AreLuma s m places → slice_get (macro_flags s flags) m ≡ Some (map (λ place. get_or flags place false) places)
unfolding macro_flags luma_flags
luma_flags_at s flags m places h = luma_at s m places (λ place. get_or flags place false) h

-- there are flags for each macro block
pub flags_long : (s : Shape) (flags : List Bool) → length (macro_flags s flags) ≡ length (macro_blocks s)
unfolding macro_flags
flags_long s flags = length-map (macro_blocks s) (luma_flags s flags)
