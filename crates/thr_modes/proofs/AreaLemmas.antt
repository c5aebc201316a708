-- How many blocks a macro block has, and its coded places. The placing of vectors cites these.
use Rattle.std.proofs.Common.{◌≡◌, ◌∙◌, ℕ, ◌-◌, ◌≤◌, List, ◌++◌, length, length-append, map, take, replicate, Some, slice_get, ap, sym, arith}
use Rattle.std.specs.List.{All}
use Rattle.std.proofs.Math.Nat.{mul_comm}
use Rattle.std.proofs.lemmas.Bool.Decides.{nat_tests}
use Rattle.std.proofs.lemmas.List.{length-map, map-append, take_at}
use Rattle.std.proofs.lemmas.List.Elements.{All-map}
use Rattle.vid_base.specs.declared.shape.Shape.{Shape}
use Rattle.vid_geom.specs.declared.block.MacroBlock.{MacroBlock}
use Rattle.vid_geom.specs.Squares.{Cell, cells}
use Rattle.vid_geom.specs.CodedOrder.{place_of}
use Rattle.vid_geom.specs.MacroBlocks.{Area, area_at, area_blocks, columns_in, rows_in, filled, macro_blocks, macro_grid, IsMacroBlock}
use Rattle.vid_geom.proofs.ListLemmas.{All-at}
use Rattle.vid_geom.proofs.MacroBlockLemmas.{length-blocks_in}
use Rattle.thr_modes.specs.Motion.{chroma_count}
use Rattle.thr_modes.specs.Placing.{put_at}
use Rattle.thr_modes.proofs.PutLemmas.{put-append}

-- how many blocks a macro block has in each plane
pub record HasSizes (pf : ℕ) (area : Area) : Type 0 where
  pub luma : length area.luma ≡ 4
  pub cb : length area.cb ≡ chroma_count pf
  pub cr : length area.cr ≡ chroma_count pf

pub few_chroma : (pf : ℕ) → chroma_count pf ≤ 4
few_chroma pf = grind (arith, nat_tests)

pub sizes : (s : Shape) → All (HasSizes s.pf) (macro_blocks s)
unfolding macro_blocks area_at
sizes s =
    let one : (c : Cell) → HasSizes s.pf (area_at s.pf c) = λ c. record {
      luma = length-blocks_in s.pf 0 c;
      cb = length-blocks_in s.pf 1 c ∙ mul_comm (rows_in s.pf 1) (columns_in s.pf 1);
      cr = length-blocks_in s.pf 2 c ∙ mul_comm (rows_in s.pf 2) (columns_in s.pf 2);
    } in
    All-map (HasSizes s.pf) (area_at s.pf) (cells (macro_grid s)) (λ k d h. one _)

pub sizes_at : (s : Shape) (m : ℕ) (area : Area) → slice_get (macro_blocks s) m ≡ Some area → HasSizes s.pf area
sizes_at s m area h = All-at (HasSizes s.pf) (macro_blocks s) m area h (sizes s)

-- the numbers of a macro block that count are the places of its blocks
pub record ArePlaces (s : Shape) (area : Area) (numbers : MacroBlock) : Type 0 where
  pub luma : numbers.luma ≡ map (place_of s) area.luma
  pub cb : take numbers.chroma_count numbers.cb ≡ map (place_of s) area.cb
  pub cr : take numbers.chroma_count numbers.cr ≡ map (place_of s) area.cr

counted : (places numbers : List ℕ) (count : ℕ) → numbers ≡ filled places → length places ≡ count → take count numbers ≡ places
counted places numbers count is long = ap (take count) is ∙ take_at places (replicate (4 - length places) 0) count long

pub are_places : (s : Shape) (area : Area) (numbers : MacroBlock) → HasSizes s.pf area → IsMacroBlock s area numbers → ArePlaces s area numbers
are_places s area numbers has is = record {
  luma = is.luma;
  cb = counted (map (place_of s) area.cb) numbers.cb numbers.chroma_count is.cb (length-map area.cb (place_of s) ∙ sym is.count);
  cr = counted (map (place_of s) area.cr) numbers.cr numbers.chroma_count is.cr (length-map area.cr (place_of s) ∙ has.cr ∙ sym has.cb ∙ sym is.count);
}

-- and then the places of all its blocks
pub numbers_are : (s : Shape) (area : Area) (numbers : MacroBlock) → HasSizes s.pf area → IsMacroBlock s area numbers
    → numbers.luma ++ take numbers.chroma_count numbers.cb ++ take numbers.chroma_count numbers.cr ≡ map (place_of s) (area_blocks area)
numbers_are s area numbers has is =
    let place = place_of s in
    let are = are_places s area numbers has is in
    rw (are.luma, are.cb, are.cr) (sym (map-append place (area.luma ++ area.cb) area.cr ∙ ap (λ l. l ++ map place area.cr) (map-append place area.luma area.cb)))

-- values put in three parts
pub put_three : {X : Type 0} (xs ys zs all : List X) (luma cb cr : List ℕ) (vectors chroma : List X) → length luma ≡ length vectors → length cb ≡ length chroma → ys ≡ put_at xs luma vectors → zs ≡ put_at ys cb chroma → all ≡ put_at zs cr chroma
    → all ≡ put_at xs (luma ++ cb ++ cr) (vectors ++ chroma ++ chroma)
put_three xs ys zs all luma cb cr vectors chroma long more a b c =
    c ∙ ap (λ l. put_at l cr chroma) (b ∙ ap (λ l. put_at l cb chroma) a ∙ sym (put-append xs luma cb vectors chroma long))
    ∙ sym (put-append xs (luma ++ cb) cr (vectors ++ chroma) chroma (omega (arith, length-append luma cb, length-append vectors chroma)))
