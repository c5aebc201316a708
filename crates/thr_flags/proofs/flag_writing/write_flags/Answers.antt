use Rattle.std.proofs.Common.{length}
use Rattle.thr_flags.proofs.PartLemmas.{flags_few}
use Rattle.thr_flags.proofs.WritingLemmas.{on_ok}
use Rattle.thr_flags.proofs.flag_writing.write_flags.Goals as goal

pub returns-clause-few : goal.returns-clause-few
returns-clause-few c =
    on_ok c.write_single.result
    (flags_few c.args.geom.now c.args.flags.now (length c.args.w.now) (length c.write_partly.new.w) (length c.write_fully.new.w) (length c.write_single.new.w) c.requires c.in_ok-write_partly.ensures.few c.in_ok-write_fully.ensures.few)
    c.write_single.ensures.few
