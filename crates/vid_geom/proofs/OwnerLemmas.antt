-- Each coded place is named by one macro block. The layers that write to the blocks of each macro block cite these.
use Rattle.std.proofs.Common.{◌≡◌, ◌∙◌, ℕ, ◌+◌, ◌*◌, ◌-◌, ◌<◌, ◌≤◌, List, length, get_or, map, Some, slice_get, sym, ap, refl, arith}
use Rattle.std.specs.List.{Contains}
use Rattle.std.proofs.lemmas.List.{length-map, get_or-map}
use Rattle.std.proofs.lemmas.List.Elements.{All-contains, Contains-get_or}
use Rattle.std.proofs.lemmas.Nat.{same_from_place}
use Rattle.std.proofs.lemmas.Option.{slice_get-map, slice_get_within, slice_get-get_or, same_Some}
use Rattle.vid_base.specs.declared.shape.Shape.{Shape}
use Rattle.vid_geom.specs.declared.block.Block.{Block}
use Rattle.vid_geom.specs.Squares.{Cell, cell, cells}
use Rattle.vid_geom.specs.CodedOrder.{IsBlock, order_of, place_of}
use Rattle.vid_geom.specs.MacroBlocks.{macro_grid, Area, area_at, area_blocks, macro_blocks}
use Rattle.vid_geom.proofs.ListLemmas.{Contains-map, slice_get-Contains}
use Rattle.vid_geom.proofs.NumberLemmas.{number_at, number_between}
use Rattle.vid_geom.proofs.SquareLemmas.{number_in, cells_counted}
use Rattle.vid_geom.proofs.CellLemmas.{cells_contain}
use Rattle.vid_geom.proofs.OrderLemmas.{place_at, block_at, place_apart}
use Rattle.vid_geom.proofs.MacroBlockLemmas.{owner_of, owner_inside, owner_contains, size_of, macro_number, area_counted, area_inside, macro_cell_inside}

-- a macro block names a place
pub record Names (s : Shape) (m place : ℕ) : Type 0 where
  pub area : Area
  pub at : slice_get (macro_blocks s) m ≡ Some area
  pub named : Contains (map (place_of s) (area_blocks area)) place

-- a macro block by its column and row
record HasCell (s : Shape) (m : ℕ) (area : Area) : Type 0 where
  at : Cell
  stands : slice_get (cells (macro_grid s)) m ≡ Some at
  is : area ≡ area_at s.pf at

cell_of : (s : Shape) (m : ℕ) (area : Area) → slice_get (macro_blocks s) m ≡ Some area → HasCell s m area
unfolding macro_blocks
cell_of s m area h =
    let all : List Cell = cells (macro_grid s) in
    let within : m < length all = omega (arith, slice_get_within (map (area_at s.pf) all) m area h, length-map all (area_at s.pf)) in
    let stands : slice_get all m ≡ Some (get_or all m (cell 0 0)) = slice_get-get_or all m (cell 0 0) within in
    let there : slice_get (map (area_at s.pf) all) m ≡ Some (area_at s.pf (get_or all m (cell 0 0))) = slice_get-map (area_at s.pf) all m ∙ rw stands refl in
    record { at = get_or all m (cell 0 0); stands = stands; is = same_Some area (area_at s.pf (get_or all m (cell 0 0))) (sym h ∙ there) }

-- a block of a macro block that has the place
record HasBlock (s : Shape) (area : Area) (place : ℕ) : Type 0 where
  block : Block
  among : Contains (area_blocks area) block
  is : place_of s block ≡ place

block_of_place : (s : Shape) (area : Area) (place : ℕ) → Contains (map (place_of s) (area_blocks area)) place → HasBlock s area place
block_of_place s area place c =
    let none : Block = record { pli = 0; col = 0; row = 0 } in
    let within : c.0 < length (area_blocks area) = omega (arith, c.1, length-map (area_blocks area) (place_of s)) in
    record {
      block = get_or (area_blocks area) c.0 none;
      among = Contains-get_or (area_blocks area) c.0 none within;
      is = sym (get_or-map (place_of s) (area_blocks area) c.0 none place within) ∙ c.2;
    }

-- a block's number tells its macro block
numbered_in : (s : Shape) (m : ℕ) (area : Area) (b : Block) → slice_get (macro_blocks s) m ≡ Some area → Contains (area_blocks area) b
    → IsBlock s b × (m * size_of s.pf ≤ macro_number s b) × (macro_number s b < m * size_of s.pf + size_of s.pf)
numbered_in s m area b h among =
    let of = cell_of s m area h in
    let own : Contains (area_blocks (area_at s.pf of.at)) b = rw of.is at among in
    let inside = macro_cell_inside s m of.at of.stands in
    let number : number_in (macro_grid s) of.at ≡ m = number_at (number_in (macro_grid s)) 0 (s.fmbw * s.fmbh) (cells (macro_grid s)) (cells_counted (macro_grid s)) m of.at of.stands ∙ omega arith in
    let between = number_between (macro_number s) (number_in (macro_grid s) of.at * size_of s.pf) (number_in (macro_grid s) of.at * size_of s.pf + size_of s.pf) (area_blocks (area_at s.pf of.at)) (area_counted s of.at) b own in
    let here = rw number at between in
    (All-contains (IsBlock s) (area_blocks (area_at s.pf of.at)) b (area_inside s of.at inside.0 inside.1) own, here.0, here.1)

-- macro blocks of different numbers share no place
pub one_owner : (s : Shape) (m n place : ℕ) → Names s m place → Names s n place → m ≡ n
one_owner s m n place a b =
    let first = block_of_place s a.area place a.named in
    let second = block_of_place s b.area place b.named in
    let x = numbered_in s m a.area first.block a.at first.among in
    let y = numbered_in s n b.area second.block b.at second.among in
    let same : first.block ≡ second.block = place_apart s first.block second.block x.0 y.0 (first.is ∙ sym second.is) in
    let number : macro_number s first.block ≡ macro_number s second.block = ap (macro_number s) same in
    let size : ℕ = size_of s.pf in
    (same_from_place m (macro_number s first.block - m * size) n (macro_number s first.block - n * size) size (omega arith) (omega arith) (omega arith)).0

-- and each place is named by one
pub some_owner : (s : Shape) (place : ℕ) → place < length (order_of s) → (m : ℕ) × (m < length (macro_blocks s)) × Names s m place
unfolding macro_blocks
some_owner s place h =
    let none : Block = record { pli = 0; col = 0; row = 0 } in
    let b : Block = get_or (order_of s) place none in
    let stands : slice_get (order_of s) place ≡ Some b = slice_get-get_or (order_of s) place none h in
    let is : IsBlock s b = block_at s place b stands in
    let inside = owner_inside s b is in
    let all : List Cell = cells (macro_grid s) in
    let found = slice_get-Contains all (owner_of s.pf b) (cells_contain (macro_grid s) (owner_of s.pf b) inside.0 inside.1) in
    let within : found.0 < length all = slice_get_within all found.0 (owner_of s.pf b) found.1 in
    let named : Contains (map (place_of s) (area_blocks (area_at s.pf (owner_of s.pf b)))) (place_of s b) = Contains-map (place_of s) (area_blocks (area_at s.pf (owner_of s.pf b))) b (owner_contains s.pf b is.0) in (
      found.0,
      omega (arith, length-map all (area_at s.pf)),
      record {
        area = area_at s.pf (owner_of s.pf b);
        at = slice_get-map (area_at s.pf) all found.0 ∙ rw found.1 refl;
        named = rw (place_at s place b stands) at named;
      },
    )
