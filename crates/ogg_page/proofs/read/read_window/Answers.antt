use Rattle.std.proofs.Common.{inl, inr}
use Rattle.std.proofs.lemmas.List.{append-nil}
use Rattle.ogg_page.proofs.PageLemmas.{front_same, all_bytes}
use Rattle.ogg_page.proofs.FrontLemmas.{answer-begins, answer-written}
use Rattle.ogg_page.proofs.read.read_window.Goals as goal

pub returns-clause-page : goal.returns-clause-page
returns-clause-page c = λ bytes opens. elim opens.enough [
  | inl none ↦ rw (opens.whole, none, append-nil) c.front_page.ensures.page
  | inr enough ↦ rw (opens.whole, front_same c.args.window.now opens.rest enough (all_bytes c.args.window.now c.type_inv.window)) c.front_page.ensures.page
]

pub returns-clause-begins : goal.returns-clause-begins
returns-clause-begins c = answer-begins c.front_page.result c.args.window.now c.front_page.ensures.page

pub returns-clause-written : goal.returns-clause-written
returns-clause-written c = answer-written c.front_page.result c.args.window.now (all_bytes c.args.window.now c.type_inv.window) c.front_page.ensures.page
