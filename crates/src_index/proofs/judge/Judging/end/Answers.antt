use Rattle.std.proofs.Common.{rules, ◌≡◌, Ok}
use Rattle.ogg_link.specs.Walk.{ended}
use Rattle.ogg_link.proofs.EndLemmas.{three_ended}
use Rattle.src_index.specs.Holding.{kept_of}
use Rattle.src_index.proofs.SpacingLemmas.{three_kept}
use Rattle.src_index.proofs.judge.Judging.end.Goals as goal

pub returns-in-Ok-clause-three : goal.returns-in-Ok-clause-three
returns-in-Ok-clause-three c =
    let end : ended c.args.self.walk.state ≡ Ok c.end.new.self.state = search rules in
    three_kept c.args.self.walk.state.progress.packets _ c.args.self.walk.state.progress.last_key (kept_of c.args.self.packets) c.requires.tallied (three_ended c.args.self.walk.state c.end.new.self.state end)
