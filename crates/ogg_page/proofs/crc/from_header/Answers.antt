use Rattle.std.proofs.Common.{ℕ, List, [], ◌∷◌, ◌++◌, take, drop}
use Rattle.ogg_page.proofs.StepLemmas.{GoesOn-append, GoesOn-tail}
use Rattle.ogg_page.proofs.crc.from_header.Goals as goal

pub returns : goal.returns
returns c =
    let field : List ℕ = 0 ∷ 0 ∷ 0 ∷ 0 ∷ [] in
    GoesOn-append 0 c.after-2.result c.after-3.result (take 22 c.args.page.now ++ field) (drop 26 c.args.page.now)
    (GoesOn-append 0 c.after.result c.after-2.result (take 22 c.args.page.now) field c.after.ensures c.after-2.ensures)
    (GoesOn-tail c.after-2.result c.after-3.result 26 c.args.page.now c.after-3.ensures)
