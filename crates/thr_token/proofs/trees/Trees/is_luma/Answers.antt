use Rattle.std.proofs.Common.{◌∙◌, sym, ap, nat_lt}
use Rattle.thr_token.proofs.TreeLemmas.{luma_first}
use Rattle.thr_token.proofs.trees.Trees.is_luma.Goals as goal

pub returns : goal.returns
returns c =
    let s = c.args.self.now in
    ap (nat_lt c.args.b) s.lumas_are ∙ sym (luma_first s.geom.now c.args.b c.requires)
