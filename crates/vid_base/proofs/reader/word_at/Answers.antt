use Rattle.std.proofs.Common.{◌-◌, length, take, drop, arith, ap, ◌∙◌}
use Rattle.std.proofs.lemmas.List.{length-drop, take_all}
use Rattle.vid_base.proofs.WordLemmas.{word-bits}
use Rattle.vid_base.proofs.reader.word_at.Goals as goal

pub returns-clause-bits : goal.returns-clause-bits
returns-clause-bits c =
    let behind = take_all (length c.args.bytes.now - c.args.at) (drop c.args.at c.args.bytes.now) (omega (arith, length-drop c.args.at c.args.bytes.now)) in
    let there = rw behind at c.in_ok-eight.ensures.cases.enough in
    word-bits c.args.bytes.now c.in_ok-eight.eight.now c.args.at c.from_be_bytes.result (λ i. (c.type_inv.bytes i).fits)
    (omega (arith, there, length-drop c.args.at c.args.bytes.now)) (c.in_ok-eight.ensures.cases.same ∙ ap (take 8) behind) c.from_be_bytes.ensures
