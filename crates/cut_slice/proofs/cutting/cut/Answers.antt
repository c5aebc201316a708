use Rattle.std.proofs.Common.{◌≡◌, false, rules}
use Rattle.cut_slice.specs.Words.{Cut, clashes}
use Rattle.cut_slice.specs.Slices.{slice_view}
use Rattle.cut_desk.proofs.InputLemmas.{makes_since}
use Rattle.cut_slice.proofs.CuttingLemmas.{caused_by_source, created_since, ready_of}
use Rattle.cut_slice.proofs.cutting.cut.Goals as goal

pub returns-in-Ok-cut_source-clause-caused : goal.returns-in-Ok-cut_source-clause-caused
returns-in-Ok-cut_source-clause-caused g c = λ files told.
    let names : Cut = record { list = c.args.list.now; out = c.args.out.now; source = c.args.source.now } in
    let apart : clashes names ≡ false = search rules in
    let cuts = rw c.deref.ensures.value at c.in-Ok-cut_source.ensures.cut in
    (slice_view c.in-Ok.read.slice, cuts.packets, ready_of names files (slice_view c.in-Ok.read.slice) cuts.packets c.in-Ok.read.bytes.items apart (c.in-Ok.ensures.read files told) cuts.plain cuts.range, cuts.key)

pub returns-in-Ok-cut_source-clause-written : goal.returns-in-Ok-cut_source-clause-written
returns-in-Ok-cut_source-clause-written g c = λ files told.
    let names : Cut = record { list = c.args.list.now; out = c.args.out.now; source = c.args.source.now } in
    let apart : clashes names ≡ false = search rules in
    let cuts = rw c.deref.ensures.value at c.in-Ok-cut_source.ensures.cut in
    record {
      slice = slice_view c.in-Ok.read.slice;
      packets = cuts.packets;
      ready = ready_of names files (slice_view c.in-Ok.read.slice) cuts.packets c.in-Ok.read.bytes.items apart (c.in-Ok.ensures.read files told) cuts.plain cuts.range;
      makes = makes_since _ _ _ c.args.out.now _ c.in-Ok.ensures.kept cuts.makes;
    }

pub returns-in-Ok-clause-caused : goal.returns-in-Ok-clause-caused
returns-in-Ok-clause-caused g c = λ files told.
    let names : Cut = record { list = c.args.list.now; out = c.args.out.now; source = c.args.source.now } in
    let apart : clashes names ≡ false = search rules in
    caused_by_source names files (slice_view c.in-Ok.read.slice) c.in-Ok.read.bytes.items c.in-Err-cut_source.status apart (c.in-Ok.ensures.read files told) (rw c.deref.ensures.value at c.in-Err-cut_source.ensures.refused)

pub returns-in-Ok-cut_source-clause-created : goal.returns-in-Ok-cut_source-clause-created
returns-in-Ok-cut_source-clause-created g c = λ files told.
    let names : Cut = record { list = c.args.list.now; out = c.args.out.now; source = c.args.source.now } in
    let apart : clashes names ≡ false = search rules in
    created_since (g.D.Desk.sees c.args.desk.now) (g.D.Desk.sees c.read_both.new.desk) (g.D.Desk.sees c.cut_source.new.desk) names files (slice_view c.in-Ok.read.slice) c.in-Ok.read.bytes.items apart (c.in-Ok.ensures.read files told) c.in-Ok.ensures.kept (rw c.deref.ensures.value at c.cut_source.ensures.created)

pub returns-in-Ok-clause-created : goal.returns-in-Ok-clause-created
returns-in-Ok-clause-created g c = λ files told.
    let names : Cut = record { list = c.args.list.now; out = c.args.out.now; source = c.args.source.now } in
    let apart : clashes names ≡ false = search rules in
    created_since (g.D.Desk.sees c.args.desk.now) (g.D.Desk.sees c.read_both.new.desk) (g.D.Desk.sees c.cut_source.new.desk) names files (slice_view c.in-Ok.read.slice) c.in-Ok.read.bytes.items apart (c.in-Ok.ensures.read files told) c.in-Ok.ensures.kept (rw c.deref.ensures.value at c.cut_source.ensures.created)
