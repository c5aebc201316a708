use Rattle.std.proofs.Common.{◌≡◌, true, false, arith}
use Rattle.cut_list.specs.EditList.{is_head}
use Rattle.cut_list.proofs.ReadLemmas.{list_of-none, list_of-no_head, list_of-head, slices_in-head}
use Rattle.cut_list.proofs.read.read_list.Goals as goal

pub returns-then-is_empty-clause-first_bad : goal.returns-then-is_empty-clause-first_bad
returns-then-is_empty-clause-first_bad c = list_of-none c.args.text.now (grind arith)

pub returns-then-ne-clause-first_bad : goal.returns-then-ne-clause-first_bad
returns-then-ne-clause-first_bad c =
    let no_head : is_head c.first_line-head.result.bytes.now ≡ false = grind arith in
    list_of-no_head c.args.text.now _ _ c.first_line-head.ensures.lines no_head

pub returns-clause-value : goal.returns-clause-value
returns-clause-value c =
    let head : is_head c.first_line-head.result.bytes.now ≡ true = grind arith in
    let said = list_of-head c.args.text.now c.first_line-head.result.bytes.now _ c.first_line-head.ensures.lines head in
    rw said c.read_slices.ensures.value

pub returns-clause-first_bad : goal.returns-clause-first_bad
returns-clause-first_bad c =
    let head : is_head c.first_line-head.result.bytes.now ≡ true = grind arith in
    let said = list_of-head c.args.text.now c.first_line-head.result.bytes.now _ c.first_line-head.ensures.lines head in
    rw said c.read_slices.ensures.first_bad

pub returns-clause-needed : goal.returns-clause-needed
returns-clause-needed c =
    let head : is_head c.first_line-head.result.bytes.now ≡ true = grind arith in
    let slices = slices_in-head c.args.text.now c.first_line-head.result.bytes.now _ c.first_line-head.ensures.lines head in
    rw slices c.read_slices.ensures.needed
