use Rattle.std.proofs.Common.{drop, sym, subst}
use Rattle.vid_desk.specs.Meaning.{bytes_at}
use Rattle.src_index.specs.Windows.{OpensTwo}
use Rattle.src_index.specs.Judging.{Follows}
use Rattle.src_index.proofs.AheadLemmas.{opens_ahead}
use Rattle.src_index.proofs.load.turn.Goals as goal

pub returns-in-Err-clause-judged : goal.returns-in-Err-clause-judged
returns-in-Err-clause-judged g c = λ files told follows.
    let bytes = bytes_at files c.args.ahead.now.id in
    let ahead = c.fill.new.self in
    let opens = opens_ahead ahead bytes (c.in_ok-fill.ensures.lies files told) c.in_ok-fill.ensures.pages in
    let window : OpensTwo c.window.result.now (drop ahead.at bytes) = subst (λ window. OpensTwo window (drop ahead.at bytes)) (sym c.window.ensures) opens in
    c.in-Err.ensures.fault bytes window (subst (Follows bytes c.args.judging.now) (sym c.fill.ensures.stays.at) follows)

pub returns-in-Ok-clause-judged : goal.returns-in-Ok-clause-judged
returns-in-Ok-clause-judged g c = λ files told follows.
    let bytes = bytes_at files c.args.ahead.now.id in
    let ahead = c.fill.new.self in
    let opens = opens_ahead ahead bytes (c.in_ok-fill.ensures.lies files told) c.in_ok-fill.ensures.pages in
    let window : OpensTwo c.window.result.now (drop ahead.at bytes) = subst (λ window. OpensTwo window (drop ahead.at bytes)) (sym c.window.ensures) opens in
    subst (Follows bytes c.judge_page.new.self) (sym c.pass.ensures.at) (c.in-Ok.ensures.judged bytes window (subst (Follows bytes c.args.judging.now) (sym c.fill.ensures.stays.at) follows))
