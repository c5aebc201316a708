use Rattle.std.proofs.Common.{◌≡◌, ◌<◌, ◌+◌, [], List, length, ap, ◌∙◌, None, arith}
use Rattle.std.proofs.lemmas.Grind.{common_steps}
use Rattle.std.proofs.lemmas.List.{length-map}
use Rattle.cut_list.specs.EditList.{lines_of, list_or_bad}
use Rattle.cut_list.specs.Slices.{slices_view}
use Rattle.cut_list.proofs.ReadLemmas.{all_read, lines_of-none, list_or_bad-some, no_slice}
use Rattle.cut_list.proofs.read.read_slices.Goals as goal

pub returns-then-is_empty-clause-first_bad : goal.returns-then-is_empty-clause-first_bad
returns-then-is_empty-clause-first_bad c =
    let i = c.lines.invariant in
    let none : lines_of c.lines.rest.now ≡ [] = lines_of-none c.lines.rest.now (grind (arith, common_steps)) in
    let empty : length c.lines.slices.items ≡ 0 = grind (arith, common_steps) in
    all_read c.lines.line (lines_of c.args.text.now) (lines_of c.lines.rest.now) (slices_view c.lines.slices.items) none i.counted i.bad i.slices
    ∙ ap (λ slices. list_or_bad (c.lines.line + 1) None (slices_view slices)) (no_slice c.lines.slices.items empty)

pub returns-clause-value : goal.returns-clause-value
returns-clause-value c =
    let i = c.lines.invariant in
    let none : lines_of c.lines.rest.now ≡ [] = lines_of-none c.lines.rest.now (grind (arith, common_steps)) in
    let some : 0 < length (slices_view c.lines.slices.items) = grind (arith, common_steps, length-map) in
    all_read c.lines.line (lines_of c.args.text.now) (lines_of c.lines.rest.now) (slices_view c.lines.slices.items) none i.counted i.bad i.slices
    ∙ list_or_bad-some (c.lines.line + 1) (slices_view c.lines.slices.items) some
