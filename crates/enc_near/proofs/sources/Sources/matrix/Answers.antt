use Rattle.std.proofs.Common.{◌∙◌, ◌<◌, ℕ, List, [], length, get_or, ap, arith}
use Rattle.std.proofs.lemmas.List.Elements.{All-get_or}
use Rattle.enc_near.specs.Made.{AreEntries, matrix_place}
use Rattle.enc_near.proofs.sources.Sources.matrix.Goals as goal

pub returns-clause-value : goal.returns-clause-value
returns-clause-value c =
    let from = c.args.self.now in
    let matrix : ℕ → List ℕ = λ n. get_or from.matrices.now n [] in
    ap matrix c.matrix_place.ensures.value ∙ ap (λ n. matrix (matrix_place (get_or from.kinds.now n 0) c.args.block.pli)) c.requires.place

pub returns-clause-entries : goal.returns-clause-entries
returns-clause-entries c =
    let from = c.args.self.now in
    let within : c.matrix_place.result < length from.matrices.now = omega (arith, from.six, c.matrix_place.ensures.below) in
    All-get_or AreEntries from.matrices.now c.matrix_place.result [] within from.entries
