-- A value for each macro block, given to its blocks. The layers above that have a value for each block cite these.
use Rattle.std.proofs.Common.{◌≡◌, ◌∙◌, ℕ, ◌<◌, true, List, length, get_or, Some, slice_get, ap, arith}
use Rattle.std.specs.List.{Contains}
use Rattle.std.proofs.lemmas.List.{length-map}
use Rattle.std.proofs.lemmas.List.Elements.{All-contains}
use Rattle.std.proofs.lemmas.List.Folds.{list_any_at}
use Rattle.std.proofs.lemmas.List.Sums.{position_or_len_is}
use Rattle.std.proofs.lemmas.Map.Views.{Contains-from_any}
use Rattle.std.proofs.lemmas.Option.{get_or_from_slice_get, slice_get-get_or, slice_get-map, slice_get_within}
use Rattle.vid_base.specs.declared.shape.Shape.{Shape}
use Rattle.vid_geom.specs.declared.block.Block.{Block}
use Rattle.vid_geom.specs.CodedOrder.{IsBlock, order_of, place_of, same_block}
use Rattle.vid_geom.specs.MacroBlocks.{Area, area_blocks, macro_blocks, macro_order}
use Rattle.vid_geom.specs.ByBlock.{by_block, has_block, macro_place}
use Rattle.vid_geom.proofs.ListLemmas.{Contains-flat_map, Contains-map, Contains-slice_get, slice_get-Contains}
use Rattle.vid_geom.proofs.MacroBlockLemmas.{macro_order_names_each_once}
use Rattle.vid_geom.proofs.OrderLemmas.{at_place, not_true, same_is, same_self}
use Rattle.vid_geom.proofs.OwnerLemmas.{Names, one_owner}

has : (area : Area) (b : Block) → Contains (area_blocks area) b → has_block area b ≡ true
has area b among =
    let blocks : List Block = area_blocks area in
    let found = slice_get-Contains blocks b among in
    let here : get_or blocks found.0 b ≡ b = get_or_from_slice_get blocks found.0 b b found.1 in
    list_any_at (same_block b) blocks found.0 b (slice_get_within blocks found.0 b found.1) (rw here (same_self b))

-- a block of a macro block has its place
pub macro_place_is : (s : Shape) (m : ℕ) (area : Area) (b : Block) → slice_get (macro_blocks s) m ≡ Some area → Contains (area_blocks area) b → macro_place s b ≡ m
unfolding macro_place
macro_place_is s m area b at among =
    let areas : List Area = macro_blocks s in
    let within : m < length areas = slice_get_within areas m area at in
    let here : get_or areas m area ≡ area = get_or_from_slice_get areas m area area at in
    position_or_len_is (λ other. has_block other b) areas m area (omega arith)
    (λ k below. not_true (has_block (get_or areas k area) b) (λ yes.
    (let other : Area = get_or areas k area in
    let stands : slice_get areas k ≡ Some other = slice_get-get_or areas k area (omega arith) in
    let first : Names s k (place_of s b) = record { area = other; at = stands; named = Contains-map (place_of s) (area_blocks other) b (Contains-from_any same_is b (area_blocks other) yes) } in
    let second : Names s m (place_of s b) = record { area = area; at = at; named = Contains-map (place_of s) (area_blocks area) b among } in
    let same : k ≡ m = one_owner s k m (place_of s b) first second in
    omega arith)))
    (λ _. rw here (has area b among))

-- a value for each block
pub length-by_block : {X : Type 0} (s : Shape) (none : X) (values : List X) → length (by_block s none values) ≡ length (order_of s)
unfolding by_block
length-by_block s none values = length-map (order_of s) (λ b. get_or values (macro_place s b) none)

-- each block has its macro block's value
pub by_block_at : {X : Type 0} (s : Shape) (none : X) (values : List X) (m : ℕ) (area : Area) (b : Block) → slice_get (macro_blocks s) m ≡ Some area → Contains (area_blocks area) b
    → slice_get (by_block s none values) (place_of s b) ≡ Some (get_or values m none)
unfolding by_block macro_order
by_block_at s none values m area b at among =
    let inside : IsBlock s b = All-contains (IsBlock s) (macro_order s) b (macro_order_names_each_once s).only (Contains-flat_map area_blocks (macro_blocks s) area b (Contains-slice_get (macro_blocks s) m area at) among) in
    slice_get-map (λ b. get_or values (macro_place s b) none) (order_of s) (place_of s b)
    ∙ rw (at_place s b inside) (ap (λ k. Some (get_or values k none)) (macro_place_is s m area b at among))
