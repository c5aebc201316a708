use Rattle.std.proofs.Common.{◌-◌, eq-eqb, arith}
use Rattle.src_index.proofs.LetterLemmas.{letter_in, part_length}
use Rattle.src_index.proofs.false_pages.next_letter.Goals as goal

pub returns-in-Some-clause-before : goal.returns-in-Some-clause-before
returns-in-Some-clause-before c = λ bytes place o low high page.
    let hay = part_length c.args.window.now c.args.from c.args.past c.requires.0 c.requires.1 in
    c.in-Some.ensures.0.before (place - c.args.from) (omega arith) (omega (arith, low, high))
    (eq-eqb _ 79 (letter_in c.args.window.now bytes c.args.from c.args.past place o low (omega (arith, high, c.in-Some.ensures.0.high, hay)) c.requires.1 page))

pub returns-in-None-clause-none : goal.returns-in-None-clause-none
returns-in-None-clause-none c = λ bytes place o low high page.
    let hay = part_length c.args.window.now c.args.from c.args.past c.requires.0 c.requires.1 in
    c.in-None.ensures (place - c.args.from) (omega arith) (omega (arith, low, high, hay))
    (eq-eqb _ 79 (letter_in c.args.window.now bytes c.args.from c.args.past place o low high c.requires.1 page))
