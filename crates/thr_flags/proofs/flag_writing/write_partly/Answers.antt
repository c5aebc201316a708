use Rattle.std.proofs.Common.{arith, List, Bool, refl, take}
use Rattle.thr_flags.specs.Flags.{sizes_of}
use Rattle.thr_flags.specs.WrittenFlags.{partly_in, parts}
use Rattle.thr_flags.proofs.PartLemmas.{all_parts, partly_next}
use Rattle.thr_flags.proofs.WritingLemmas.{on_ok}
use Rattle.thr_flags.proofs.flag_writing.write_partly.Goals as goal

pub superblocks-init : goal.superblocks-init
unfolding partly_in
superblocks-init c = record { holds = (refl, refl); run = tt }

pub superblocks-preserved : goal.superblocks-preserved
superblocks-preserved c =
    let all : List (List Bool) = parts (sizes_of c.args.geom.now) c.args.flags.now in
    record {
      holds = rw (partly_next all c.superblocks.s c.part_of.result.now c.part_of.ensures.value, ← c.is_partial-partial.ensures)
          (c.in_ok-last.ensures.written c.args.w.now (partly_in (take c.superblocks.s all)) c.superblocks.invariant.holds);
      run = c.in_ok-last.ensures.run;
    }

pub returns-clause-reads_back : goal.returns-clause-reads_back
returns-clause-reads_back c =
    let all = rw (all_parts c.args.geom.now c.args.flags.now c.superblocks.s (omega arith)) at c.superblocks.invariant.holds in
    on_ok c.close.result (λ back. back c.args.w.now (partly_in (parts (sizes_of c.args.geom.now) c.args.flags.now)) all) c.close.ensures.reads_back

pub returns-clause-few : goal.returns-clause-few
returns-clause-few c =
    let all = rw (all_parts c.args.geom.now c.args.flags.now c.superblocks.s (omega arith)) at c.superblocks.invariant.holds in
    on_ok c.close.result (λ few. few c.args.w.now (partly_in (parts (sizes_of c.args.geom.now) c.args.flags.now)) all) c.close.ensures.few
