use Rattle.std.proofs.Common.{◌≡◌, ◌∙◌, arith, false, List, Bool, refl, sym, take, true}
use Rattle.thr_flags.specs.Flags.{sizes_of}
use Rattle.thr_flags.specs.WrittenFlags.{fully_in, is_partial, parts}
use Rattle.thr_flags.proofs.PartLemmas.{all_parts, fully_next, fully_same}
use Rattle.thr_flags.proofs.WritingLemmas.{on_ok}
use Rattle.thr_flags.proofs.flag_writing.write_fully.Goals.{then-not-is_partial+in_ok-last, else-not-is_partial}
use Rattle.thr_flags.proofs.flag_writing.write_fully.Goals as goal

pub superblocks-init : goal.superblocks-init
unfolding fully_in
superblocks-init c = record { holds = (refl, refl); run = tt }

pub superblocks-preserved : goal.superblocks-preserved
superblocks-preserved c =
    let all : List (List Bool) = parts (sizes_of c.args.geom.now) c.args.flags.now in
    let part : List Bool = c.part_of-part.result.now in
    let at = c.part_of-part.ensures.value in
    elim c.if-not-is_partial.branch [
      | then-not-is_partial+in_ok-last w ↦
          let no : is_partial part ≡ false = sym c.is_partial.ensures ∙ w.if-not-is_partial.true in
          record {
            holds = rw (fully_next all c.superblocks.s part at no, w.w-is, w.last-is) (w.in_ok-last.ensures.written c.args.w.now (fully_in (take c.superblocks.s all)) c.superblocks.invariant.holds);
            run = rw w.last-is w.in_ok-last.ensures.run;
          }
      | else-not-is_partial w ↦
          let yes : is_partial part ≡ true = sym c.is_partial.ensures ∙ w.if-not-is_partial.false in
          record {
            holds = rw (fully_same all c.superblocks.s part at yes, w.w-is, w.last-is) c.superblocks.invariant.holds;
            run = rw w.last-is c.superblocks.invariant.run;
          }
    ]

pub returns-clause-reads_back : goal.returns-clause-reads_back
returns-clause-reads_back c =
    let all = rw (all_parts c.args.geom.now c.args.flags.now c.superblocks.s (omega arith)) at c.superblocks.invariant.holds in
    on_ok c.close.result (λ back. back c.args.w.now (fully_in (parts (sizes_of c.args.geom.now) c.args.flags.now)) all) c.close.ensures.reads_back

pub returns-clause-few : goal.returns-clause-few
returns-clause-few c =
    let all = rw (all_parts c.args.geom.now c.args.flags.now c.superblocks.s (omega arith)) at c.superblocks.invariant.holds in
    on_ok c.close.result (λ few. few c.args.w.now (fully_in (parts (sizes_of c.args.geom.now) c.args.flags.now)) all) c.close.ensures.few
