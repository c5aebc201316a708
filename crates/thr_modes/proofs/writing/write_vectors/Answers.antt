use Rattle.std.proofs.Common.{map}
use Rattle.thr_modes.specs.Vectors.{offset_of}
use Rattle.thr_modes.specs.WrittenVectors.{macro_vectors}
use Rattle.thr_modes.proofs.FewBits.{vectors_few}
use Rattle.thr_modes.proofs.FrameBack.{are_vectors, vectors_read_back}
use Rattle.thr_modes.proofs.writing.write_vectors.Goals as goal

pub returns-clause-reads_back : goal.returns-clause-reads_back
returns-clause-reads_back c readable =
    vectors_read_back c.args.geom.now c.args.flags.now c.args.modes.now (map offset_of c.args.vectors.now) readable.0 readable.1 c.args.w.now c.write_bit.new.w c.write_motions.new.w c.requires.modes (are_vectors c.args.vectors.now) readable.2 c.in_ok-write_bit.ensures.written c.in_ok-write_motions.ensures.written

pub returns-clause-few : goal.returns-clause-few
returns-clause-few c =
    let s = c.args.geom.now in
    vectors_few s c.args.flags.now c.args.modes.now (macro_vectors s (map offset_of c.args.vectors.now)) c.args.w.now c.write_bit.new.w c.write_motions.new.w c.in_ok-write_bit.ensures.written c.in_ok-write_motions.ensures.written
