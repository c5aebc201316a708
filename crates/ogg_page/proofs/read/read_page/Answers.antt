use Rattle.std.proofs.Common.{◌≤◌, drop}
use Rattle.std.proofs.lemmas.List.Elements.{All-drop}
use Rattle.ogg_page.proofs.PageLemmas.{all_bytes}
use Rattle.ogg_page.proofs.FrontLemmas.{from_place, answer-begins, answer-written}
use Rattle.ogg_page.proofs.read.read_page.Goals as goal

pub returns-clause-begins : goal.returns-clause-begins
returns-clause-begins c = answer-begins c.front_page.result (drop c.args.at c.args.bytes.now) (rw from_place at c.front_page.ensures.page)

pub returns-clause-written : goal.returns-clause-written
returns-clause-written c =
    answer-written c.front_page.result (drop c.args.at c.args.bytes.now) (All-drop (λ b. b ≤ 255) c.args.at c.args.bytes.now (all_bytes c.args.bytes.now c.type_inv.bytes)) (rw from_place at c.front_page.ensures.page)
