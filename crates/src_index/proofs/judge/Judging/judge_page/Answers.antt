use Rattle.std.proofs.Common.{◌≡◌, ◌∙◌, ◌≤◌, Ok, drop, length, ap, sym, arith}
use Rattle.ogg_page.specs.Page.{view, page_at_front, bytes_of_page}
use Rattle.src_index.specs.declared.judge.Judging.{Judging}
use Rattle.src_index.specs.Judging.{before_of}
use Rattle.src_index.specs.Holding.{kept_of}
use Rattle.src_index.proofs.LetterLemmas.{opens_one}
use Rattle.src_index.proofs.TurnLemmas.{follow_bad, follow_refused, follow_page, field_in}
use Rattle.src_index.proofs.judge.Judging.judge_page.Goals as goal

pub returns-in-Err-clause-fault : goal.returns-in-Err-clause-fault
returns-in-Err-clause-fault c = λ bytes o f.
    let front = drop c.args.at bytes in
    follow_bad c.args.self.now c.args.window.now bytes c.args.at c.in-Err.fault o c.requires.some (c.in-Err.ensures.page front (opens_one c.args.window.now front o)) f

pub returns-in-Err-page-clause-fault : goal.returns-in-Err-page-clause-fault
returns-in-Err-page-clause-fault c = λ bytes o f.
    let front = drop c.args.at bytes in
    follow_refused c.args.self.now c.args.window.now bytes c.args.at (view c.in-Ok.page) c.in-Err-page.refusal o c.requires.some (c.in-Ok.ensures.page front (opens_one c.args.window.now front o)) c.in-Err-page.ensures.fault f

pub returns-clause-judged : goal.returns-clause-judged
returns-clause-judged c = λ bytes o f.
    let front = drop c.args.at bytes in
    let page = view c.in-Ok.page in
    let old = c.args.self.now in
    let mid = c.page.new.self in
    let new = c.look.new.self in
    let same = c.look.ensures.same in
    let stands : page_at_front front ≡ Ok page = c.in-Ok.ensures.page front (opens_one c.args.window.now front o) in
    let long : 27 ≤ length c.args.window.now = omega (arith, c.in-Ok.ensures.fits) in
    let size : c.page_size-size.result ≡ bytes_of_page page = omega (arith, c.page_size-size.ensures.value, c.in-Ok.ensures.shape.sum) in
    follow_page old new bytes c.args.at c.checksum_field.result c.page_size-size.result page stands (field_in c.args.window.now front c.checksum_field.result o long c.checksum_field.ensures) size
    (c.in-Ok-page.ensures.checks ∙ ap Ok (sym (ap {A = Judging} before_of same)))
    (ap {A = Judging} (λ j. kept_of j.packets) same ∙ c.in-Ok-page.ensures.kept)
    c.in-Ok-page.ensures.short
    (record {
      none = λ e. let r = c.look.ensures.none e in (sym c.page.ensures.same ∙ r.0, λ place. r.1 front place o);
      one = λ e was. c.look.ensures.one e (c.page.ensures.same ∙ was) front o;
    })
    f
