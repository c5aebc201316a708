use Rattle.std.proofs.Common.{◌≡◌, ◌∙◌, ◌+◌, ◌++◌, ◌∷◌, [], arith, drop, false, get_or, List, Bool, refl, sym, take, true}
use Rattle.std.proofs.lemmas.List.{append_assoc, take_all, take_more}
use Rattle.vid_geom.specs.Squares.{joined}
use Rattle.thr_flags.specs.RunStrings.{Short}
use Rattle.thr_flags.specs.Flags.{sizes_of}
use Rattle.thr_flags.specs.WrittenFlags.{single_in, is_partial, parts}
use Rattle.thr_flags.proofs.PartLemmas.{all_parts, single_next, single_same, single_split, small_superblocks}
use Rattle.thr_flags.proofs.RowLemmas.{rows_of_single}
use Rattle.thr_flags.proofs.WritingLemmas.{fits_held, on_ok}
use Rattle.thr_flags.proofs.flag_writing.write_single.Goals.{then-is_partial+else-values-test, else-is_partial}
use Rattle.thr_flags.proofs.flag_writing.write_single.Goals as goal

pub superblocks-init : goal.superblocks-init
unfolding single_in joined
superblocks-init c = record { holds = (refl, refl); run = tt }

pub superblocks-preserved : goal.superblocks-preserved
superblocks-preserved c =
    let all : List (List Bool) = parts (sizes_of c.args.geom.now) c.args.flags.now in
    let part : List Bool = c.part_of-part.result.now in
    let at = c.part_of-part.ensures.value in
    elim c.if-is_partial.branch [
      | then-is_partial+else-values-test w ↦
          let yes : is_partial part ≡ true = sym c.is_partial.ensures ∙ w.if-is_partial.true in
          let whole = rw (take_all w.values.coded-index part (omega arith)) at w.values.invariant.holds in
          record {
            holds = rw (single_next all c.superblocks.s part at yes, w.w-is, w.last-is) whole;
            run = rw w.last-is w.values.invariant.run;
          }
      | else-is_partial w ↦
          let no : is_partial part ≡ false = sym c.is_partial.ensures ∙ w.if-is_partial.false in
          record {
            holds = rw (single_same all c.superblocks.s part at no, w.w-is, w.last-is) c.superblocks.invariant.holds;
            run = rw w.last-is c.superblocks.invariant.run;
          }
    ]

pub values-preserved : goal.values-preserved
values-preserved c =
    let before : List Bool = single_in (take c.superblocks.s (parts (sizes_of c.args.geom.now) c.args.flags.now)) in
    let part : List Bool = c.part_of-part.result.now in
    let i = c.values.coded-index in
    record {
      holds = rw (take_more part i false c.values-test.true, ← append_assoc before (take i part) (get_or part i false ∷ [])) (c.in_ok-last.ensures.written c.args.w.now (before ++ take i part) c.values.invariant.holds);
      run = c.in_ok-last.ensures.run;
    }

pub push-requires-clause-fits : goal.push-requires-clause-fits
push-requires-clause-fits c =
    let all : List (List Bool) = parts (sizes_of c.args.geom.now) c.args.flags.now in
    let s = c.superblocks.s in
    let part : List Bool = c.part_of-part.result.now in
    let i = c.values.coded-index in
    let yes : is_partial part ≡ true = sym c.is_partial.ensures ∙ c.if-is_partial.true in
    fits_held Short c.args.w.now c.values.w (single_in all) (single_in (take s all) ++ take i part) (drop (i + 1) part ++ single_in (drop (s + 1) all)) (get_or part i false) c.values.last
    (λ _. rows_of_single all (small_superblocks c.args.geom.now c.args.flags.now c.superblocks-s-end.ensures.size))
    (single_split all s i part c.part_of-part.ensures.value yes c.values-test.true) c.values.invariant.holds c.values.invariant.run

pub returns-clause-reads_back : goal.returns-clause-reads_back
returns-clause-reads_back c =
    let all = rw (all_parts c.args.geom.now c.args.flags.now c.superblocks.s (omega arith)) at c.superblocks.invariant.holds in
    on_ok c.close.result (λ back. back c.args.w.now (single_in (parts (sizes_of c.args.geom.now) c.args.flags.now)) all) c.close.ensures.reads_back

pub returns-clause-few : goal.returns-clause-few
returns-clause-few c =
    let all = rw (all_parts c.args.geom.now c.args.flags.now c.superblocks.s (omega arith)) at c.superblocks.invariant.holds in
    on_ok c.close.result (λ few. few c.args.w.now (single_in (parts (sizes_of c.args.geom.now) c.args.flags.now)) all) c.close.ensures.few
