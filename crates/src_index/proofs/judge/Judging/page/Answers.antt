use Rattle.std.proofs.Common.{rules, ◌≡◌, ◌∙◌, Ok, sym, subst}
use Rattle.ogg_page.specs.Page.{view}
use Rattle.ogg_link.specs.declared.state.Progress.{Progress}
use Rattle.ogg_link.specs.Progress.{after_pieces, Holds}
use Rattle.ogg_link.specs.Walk.{step}
use Rattle.ogg_link.specs.Granules.{settled}
use Rattle.ogg_link.proofs.StepLemmas.{progress_behind}
use Rattle.ogg_link.proofs.EndLemmas.{settled_keeps}
use Rattle.src_index.specs.Said.{shift_of}
use Rattle.src_index.specs.Headers.{said_of}
use Rattle.src_index.specs.Checks.{page_over}
use Rattle.src_index.specs.Judge.{track_pieces}
use Rattle.src_index.specs.Holding.{AreTallied}
use Rattle.src_index.proofs.CheckLemmas.{page_packets, packets_short}
use Rattle.src_index.proofs.judge.Judging.page.Goals as goal

pub returns-in-Ok-settle-clause-goes_on : goal.returns-in-Ok-settle-clause-goes_on
returns-in-Ok-settle-clause-goes_on c =
    let walk = c.args.self.now.walk.state in
    let pieces = track_pieces walk (view c.args.page.now) in
    let stepped : step walk (view c.args.page.now) ≡ Ok c.page.new.self.state = search rules in
    let settles : settled c.page.new.self.state (shift_of (said_of c.next_page.new.self.headers)) ≡ Ok c.settle.new.self.state = search rules in
    let behind : after_pieces walk.progress pieces ≡ c.settle.new.self.state.progress =
    sym (settled_keeps c.page.new.self.state c.settle.new.self.state (shift_of (said_of c.next_page.new.self.headers)) settles ∙ progress_behind walk c.page.new.self.state (view c.args.page.now) stepped) in
    let holds : Holds (after_pieces walk.progress pieces) c.next_page.new.self.begun.items = search rules in
    let tallied : AreTallied (after_pieces walk.progress pieces) c.next_page.new.self = search rules in
    record {
      whole = search rules;
      holds = subst (λ (p : Progress). Holds p c.next_page.new.self.begun.items) behind holds;
      tallied = subst (λ (p : Progress). AreTallied p c.next_page.new.self) behind tallied;
    }

pub returns-in-Ok-settle-clause-short : goal.returns-in-Ok-settle-clause-short
returns-in-Ok-settle-clause-short c =
    let book = c.args.self.now.walk.state.progress in
    let before = c.args.self.now.packets in
    let pieces = track_pieces c.args.self.now.walk.state (view c.args.page.now) in
    let over : page_over c.args.at book (said_of before.headers) before.begun.items pieces ≡ Ok (said_of c.next_page.new.self.headers) = search rules in
    packets_short c.args.at book.packets book.last_key (said_of before.headers) (said_of c.next_page.new.self.headers) _
    (page_packets c.args.at book (said_of before.headers) (said_of c.next_page.new.self.headers) before.begun.items pieces over)
