use Rattle.std.proofs.Common.{◌+◌, ◌*◌, ◌^◌, ◌≤◌, arith, rules}
use Rattle.ogg_link.proofs.GranuleLemmas.{unit_whole, product_small}
use Rattle.ogg_link.proofs.granules.position.Goals as goal

pub overflow_mul-result : goal.overflow_mul-result
overflow_mul-result c =
    let p : (c.from.result + c.from-2.result) * 2 ^ c.args.shift ≤ 2 ^ 96 = product_small (c.from.result + c.from-2.result) c.args.shift (omega arith) c.requires in
    rw (unit_whole c.args.shift c.requires) (omega arith)

pub overflow_add-result-2 : goal.overflow_add-result-2
overflow_add-result-2 c =
    let p : (c.from.result + c.from-2.result) * 2 ^ c.args.shift ≤ 2 ^ 96 = product_small (c.from.result + c.from-2.result) c.args.shift (omega arith) c.requires in
    rw (unit_whole c.args.shift c.requires) (omega arith)

pub returns : goal.returns
returns c = let e = unit_whole c.args.shift c.requires in rw e (search rules)
