use Rattle.std.proofs.Common.{◌≡◌, ◌∙◌, ℕ, ◌<◌, List, [], length, get_or, ap, arith}
use Rattle.std.proofs.lemmas.List.{get_or-map}
use Rattle.vid_geom.specs.declared.block.Block.{Block}
use Rattle.thr_modes.specs.Vectors.{offset_of}
use Rattle.thr_recon.specs.Predicted.{shown}
use Rattle.thr_recon.specs.Rebuilt.{block_of}
use Rattle.enc_search.specs.Found.{luma_samples}
use Rattle.enc_search.specs.Searched.{Samples, block_distance, block_samples}
use Rattle.enc_search.specs.Views.{refs_of}
use Rattle.enc_search.proofs.SumLemmas.{get_or_any, rows_distance}
use Rattle.enc_search.proofs.frames.Search.part.Goals as goal

pub returns-clause-value : goal.returns-clause-value
returns-clause-value c = λ d.
    let s = c.args.self.now in
    let k = c.args.k in
    let none : Block = record { pli = 0; col = 0; row = 0 } in
    let within : k < length s.blocks = omega (arith, s.four, c.requires.block) in
    let P : Block → Samples = luma_samples (refs_of s.frames) c.args.mode (offset_of c.args.vector) in
    let f : Samples = block_samples s.frames.target.now (get_or s.blocks k d) in
    let apart : List (List ℕ) → List (List ℕ) → ℕ = λ a b. block_distance (λ u v. get_or (get_or a v []) u 0) (λ u v. get_or (get_or b v []) u 0) in
    let led : shown c.predictor.result ≡ P (get_or s.blocks k d) = c.predictor.ensures ∙ ap P (get_or_any s.blocks k none d within) in
    let wanted : get_or s.wanted.now k [] ≡ block_of f = ap (λ (l : List (List (List ℕ))). get_or l k []) s.read ∙ get_or-map (λ b. block_of (block_samples s.frames.target.now b)) s.blocks k d [] within in
    c.block_distance.ensures.value ∙ ap (λ a. apart a c.block-predicted.result) wanted ∙ ap (apart (block_of f)) (c.block-predicted.ensures ∙ ap block_of led) ∙ rows_distance f (P (get_or s.blocks k d))
