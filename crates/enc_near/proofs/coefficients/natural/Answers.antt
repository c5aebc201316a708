use Rattle.std.proofs.Common.{◌≡◌, get_or}
use Rattle.enc_near.specs.Made.{natural}
use Rattle.enc_near.proofs.ZigzagLemmas.{natural_below}
use Rattle.enc_near.proofs.coefficients.natural.Goals as goal

pub returns-clause-value : goal.returns-clause-value
unfolding natural
returns-clause-value c = c.from.ensures

pub returns-clause-below : goal.returns-clause-below
unfolding natural
returns-clause-below c = let e : c.from.result ≡ get_or natural c.args.z 0 = c.from.ensures in rw e (natural_below c.args.z c.requires)
