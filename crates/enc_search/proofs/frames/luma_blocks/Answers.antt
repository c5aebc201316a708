use Rattle.std.proofs.Common.{◌≡◌, ℕ, zero, suc, ◌<◌, [], ◌∷◌, length, map, get_or, slice_get, arith}
use Rattle.vid_geom.specs.declared.block.Block.{Block}
use Rattle.vid_geom.specs.CodedOrder.{IsBlock, place_of}
use Rattle.vid_geom.specs.MacroBlocks.{macro_blocks}
use Rattle.thr_frame.proofs.OwnLemmas.{some_and}
use Rattle.enc_search.specs.Found.{IsLuma}
use Rattle.enc_search.proofs.LumaLemmas.{luma_is, luma_plane}
use Rattle.enc_search.proofs.frames.luma_blocks.Goals as goal

-- what holds of four
four_all : {X : Type 0} (P : ℕ → X → Type 0) (a b c d : X) → P 0 a → P 1 b → P 2 c → P 3 d → (k : ℕ) (e : X) → k < 4 → P k (get_or (a ∷ b ∷ c ∷ d ∷ []) k e)
four_all P a b c d pa pb pc pd zero e h = pa
four_all P a b c d pa pb pc pd (suc zero) e h = pb
four_all P a b c d pa pb pc pd (suc (suc zero)) e h = pc
four_all P a b c d pa pb pc pd (suc (suc (suc zero))) e h = pd
four_all P a b c d pa pb pc pd (suc (suc (suc (suc k)))) e h = absurd (omega arith)

pub returns-clause-value : goal.returns-clause-value
returns-clause-value c =
    let s = c.args.geom.now in
    let places = c.luma_places-places.result in
    let found = some_and (slice_get (macro_blocks s) c.args.m) (λ area. places ≡ map (place_of s) area.luma) c.luma_places-places.ensures.value in
    let inside = four_all {X = Block} (λ k b. IsBlock s b) c.at.result c.at-2.result c.at-3.result c.at-4.result c.at.ensures.inside c.at-2.ensures.inside c.at-3.ensures.inside c.at-4.ensures.inside in
    let placed = four_all {X = Block} (λ k b. place_of s b ≡ get_or places k 0) c.at.result c.at-2.result c.at-3.result c.at-4.result c.at.ensures.back c.at-2.ensures.back c.at-3.ensures.back c.at-4.ensures.back in
    rw found.1 (luma_is s c.args.m found.0 places (c.at.result ∷ c.at-2.result ∷ c.at-3.result ∷ c.at-4.result ∷ []) found.1 found.2 (omega arith) inside placed)

pub returns-clause-inside : goal.returns-clause-inside
returns-clause-inside c =
    let s = c.args.geom.now in
    let m = c.args.m in
    let places = c.luma_places-places.result in
    let found = some_and (slice_get (macro_blocks s) m) (λ area. places ≡ map (place_of s) area.luma) c.luma_places-places.ensures.value in
    let four : length places ≡ 4 = omega arith in
    let plane = λ (k : ℕ) (b : Block) (is : IsBlock s b) (at : place_of s b ≡ get_or places k 0) (small : k < 4). luma_plane s m k found.0 places b found.1 found.2 four small is at in
    four_all {X = Block} (λ k b. IsLuma s b) c.at.result c.at-2.result c.at-3.result c.at-4.result
    (c.at.ensures.inside, plane 0 c.at.result c.at.ensures.inside c.at.ensures.back (omega arith)) (c.at-2.ensures.inside, plane 1 c.at-2.result c.at-2.ensures.inside c.at-2.ensures.back (omega arith))
    (c.at-3.ensures.inside, plane 2 c.at-3.result c.at-3.ensures.inside c.at-3.ensures.back (omega arith)) (c.at-4.ensures.inside, plane 3 c.at-4.result c.at-4.ensures.inside c.at-4.ensures.back (omega arith))
