use Rattle.std.proofs.Common.{◌≡◌}
use Rattle.ogg_link.specs.Track.{granule_of}
use Rattle.ogg_link.proofs.GranuleLemmas.{told_back, positions_rise}
use Rattle.ogg_link.proofs.granules.granule.Goals as goal

pub returns-then-position-from-clause-back : goal.returns-then-position-from-clause-back
returns-then-position-from-clause-back c =
    let is : c.position-position.result ≡ granule_of c.args.base c.args.shift c.args.key c.args.frame = cc in
    told_back c.args.base c.args.shift c.args.key c.args.frame c.position-position.result is

pub returns-then-position-from-clause-rises : goal.returns-then-position-from-clause-rises
returns-then-position-from-clause-rises c = λ near later_key later is_later.
    let is : c.position-position.result ≡ granule_of c.args.base c.args.shift c.args.key c.args.frame = cc in
    rw is (positions_rise c.args.base c.args.shift c.args.key c.args.frame later_key later c.requires.key near is_later)
