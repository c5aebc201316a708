-- The blocks whose coefficients are made. `values` and `fill` cite these.
use Rattle.std.proofs.Common.{◌≡◌, ℕ, ℤ, ◌+◌, ◌<◌, List, [], length, get_or, set, inl, inr, sym, subst, arith}
use Rattle.std.proofs.lemmas.Bool.{cases_lt}
use Rattle.std.proofs.lemmas.List.{get_or-set_same, get_or-set_other}
use Rattle.vid_geom.specs.declared.block.Block.{Block}
use Rattle.vid_geom.specs.CodedOrder.{IsBlock, place_of}
use Rattle.enc_near.specs.declared.sources.Sources.{Sources}
use Rattle.enc_near.specs.Made.{AreMade}
use Rattle.enc_near.specs.Sources.{AreMadeBefore, matrix_by, wanted_by}

-- one block more
pub block_made : (from : Sources) (place : ℕ) (values : List (List ℤ)) (new : List ℤ) → place < length values
    → ((b : Block) → IsBlock from.geom.now b → place_of from.geom.now b ≡ place → AreMade (wanted_by from b) (matrix_by from b) new)
    → AreMadeBefore from place values → AreMadeBefore from (place + 1) (set values place new)
block_made from place values new within here before b is below = elim (cases_lt (place_of from.geom.now b) place) as (λ _. AreMade (wanted_by from b) (matrix_by from b) (get_or (set values place new) (place_of from.geom.now b) [])) [
  | inl earlier ↦ rw (get_or-set_other values place (place_of from.geom.now b) new [] (λ e. omega arith)) (before b is earlier)
  | inr past ↦ (let at : place_of from.geom.now b ≡ place = omega (arith, past, below) in
      let P : ℕ → Type 0 = λ n. AreMade (wanted_by from b) (matrix_by from b) (get_or (set values place new) n []) in
      subst P (sym at) (rw (get_or-set_same values place new [] within) (here b is at)))
]
