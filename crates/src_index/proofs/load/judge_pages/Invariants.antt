use Rattle.std.proofs.Common.{◌≡◌, ◌-◌, ◌≤◌}
use Rattle.vid_desk.specs.Meaning.{Told, with_reads}
use Rattle.src_index.specs.Ahead.{LiesIn}
use Rattle.src_index.specs.Judging.{GoesOn, Follows}
use Rattle.src_index.proofs.load.judge_pages.Given as goal

-- the pages so far were judged
abbrev pub invariant-pages : goal.invariant-pages
invariant-pages g l = record {
  id : l.ahead.id ≡ l.id;
  size : l.ahead.size ≡ l.size;
  lies : Told (g.D.Desk.sees l.fn.desk) l.id (LiesIn l.ahead);
  judged : Told (g.D.Desk.sees l.fn.desk) l.id (λ bytes. Follows bytes l.judging l.ahead.at);
  goes_on : GoesOn l.judging;
  kept : with_reads (g.D.Desk.sees l.fn.desk) (g.D.Desk.sees l.desk);
  later : (g.D.Desk.sees l.fn.desk).read_faults ≤ (g.D.Desk.sees l.desk).read_faults;
}

abbrev pub decreases-pages : goal.decreases-pages
decreases-pages g l = l.size - l.ahead.at
