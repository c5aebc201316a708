-- What the reader of a token asks of its table, and which blocks are of luma. The readers and `tokenise` cite these.
use Rattle.std.proofs.Common.{◌≡◌, ◌∙◌, ℕ, zero, suc, ◌<◌, ◌≤◌, true, false, map, get_or, length, nat_lt, Some, slice_get, refl, ap, subst, sym, arith}
use Rattle.std.proofs.Math.Dec.{eqb}
use Rattle.std.proofs.lemmas.Bool.{lt-ltb, le-ltb, ltb-true}
use Rattle.std.proofs.lemmas.List.{get_or-map}
use Rattle.std.proofs.lemmas.List.Sums.{AllPass-from_list_all}
use Rattle.std.proofs.lemmas.Option.{get_or_from_slice_get, slice_get-get_or, slice_get_within}
use Rattle.vid_base.specs.declared.shape.Shape.{Shape}
use Rattle.vid_geom.specs.declared.block.Block.{Block}
use Rattle.vid_geom.specs.CodedOrder.{IsBlock, IsPlaceIn, order_of, plane_blocks}
use Rattle.vid_geom.proofs.OrderLemmas.{block_at, place_at, place_in_plane}
use Rattle.thr_token.specs.Coefficients.{is_luma}
use Rattle.thr_token.specs.Tokens.{further_bits, widths}

-- no token has more than 12 further bits
pub few_bits : (token : ℕ) → token < 32 → further_bits token ≤ 12
few_bits token h =
    let few : nat_lt (further_bits token) 13 ≡ true = AllPass-from_list_all (λ width. nat_lt width 13) widths refl token 0 h in
    omega (arith, ltb-true (further_bits token) 13 few)

block_here : (s : Shape) (b : ℕ) (block : Block) → slice_get (order_of s) b ≡ Some block → is_luma block ≡ nat_lt b (plane_blocks s 0)
block_here s b block h =
    let is : IsBlock s block = block_at s b block h in
    let at : IsPlaceIn s block.pli b = subst (IsPlaceIn s block.pli) (place_at s b block h) (place_in_plane s block is) in
    plane block.pli is.0 at
  where
    plane : (pli : ℕ) → pli < 3 → IsPlaceIn s pli b → eqb pli 0 ≡ nat_lt b (plane_blocks s 0)
    plane zero h at = sym (lt-ltb b (plane_blocks s 0) (omega arith))
    plane (suc zero) h at = sym (le-ltb b (plane_blocks s 0) (omega arith))
    plane (suc (suc zero)) h at = sym (le-ltb b (plane_blocks s 0) (omega arith))
    plane (suc (suc (suc pli))) h at = absurd (omega arith)

-- the blocks of luma stand first
pub luma_first : (s : Shape) (b : ℕ) → b < length (order_of s) → get_or (map is_luma (order_of s)) b false ≡ nat_lt b (plane_blocks s 0)
luma_first s b h =
    let d : Block = record { pli = 0; col = 0; row = 0 } in
    let block : Block = get_or (order_of s) b d in
    get_or-map is_luma (order_of s) b d false h ∙ block_here s b block (slice_get-get_or (order_of s) b d h)

-- whether the block at a coded place is one of luma
pub luma_at : (s : Shape) (place : ℕ) (b : Block) → slice_get (order_of s) place ≡ Some b → get_or (map is_luma (order_of s)) place false ≡ is_luma b
luma_at s place b h = get_or-map is_luma (order_of s) place b false (slice_get_within (order_of s) place b h) ∙ ap is_luma (get_or_from_slice_get (order_of s) place b b h)
