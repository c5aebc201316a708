use Rattle.std.proofs.Common.{◌≡◌, ◌∙◌, List, ℤ, pos, replicate, sym}
use Rattle.std.specs.Cmp.Rules.{signed_items}
use Rattle.thr_token.proofs.token_tests.is_blank.Goals as goal

pub returns : goal.returns
returns c = λ yes. (signed_items c.args.block.now (replicate 64 (pos 0))).0 (sym c.eq.ensures ∙ yes)
