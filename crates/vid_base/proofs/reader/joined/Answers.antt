use Rattle.std.proofs.Common.{arith}
use Rattle.vid_base.proofs.DigitLemmas.{digits-joined}
use Rattle.vid_base.proofs.ArithmeticLemmas.{joined_fits, joined_small}
use Rattle.vid_base.proofs.reader.joined.Goals as goal

pub overflow_add-result : goal.overflow_add-result
overflow_add-result c =
    let fits = joined_fits c.args.width c.args.count 32 c.args.value c.args.more c.requires.value c.requires.more c.requires.room in
    rw (fits.1) (omega (arith, fits.0))

pub returns-clause-joined : goal.returns-clause-joined
returns-clause-joined c =
    let fits = joined_fits c.args.width c.args.count 32 c.args.value c.args.more c.requires.value c.requires.more c.requires.room in
    rw (fits.1) (digits-joined c.args.width c.args.count c.args.value c.args.more c.requires.more)

pub returns-clause-small : goal.returns-clause-small
returns-clause-small c =
    let fits = joined_fits c.args.width c.args.count 32 c.args.value c.args.more c.requires.value c.requires.more c.requires.room in
    rw (fits.1) (joined_small c.args.width c.args.count c.args.value c.args.more c.requires.value c.requires.more)
