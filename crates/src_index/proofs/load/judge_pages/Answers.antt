use Rattle.std.proofs.Common.{rules, ◌≡◌, sym, subst, arith}
use Rattle.vid_desk.specs.Meaning.{bytes_at}
use Rattle.src_index.specs.Judging.{Follows}
use Rattle.src_index.proofs.load.judge_pages.Goals as goal

pub pages-init : goal.pages-init
pages-init g c = record {
  id = c.in_ok-ahead.ensures.of.0;
  size = c.in_ok-ahead.ensures.of.1;
  lies = λ files told. c.in_ok-ahead.ensures.lies (bytes_at files c.args.id) (c.requires.size files told);
  judged = λ files told.
      let bytes = bytes_at files c.args.id in
      subst (Follows bytes c.args.judging.now) (sym c.in_ok-ahead.ensures.of.2) (c.requires.fresh bytes);
  goes_on = c.requires.goes_on;
  kept = search rules;
  later = omega arith;
}

pub returns-clause-judged : goal.returns-clause-judged
returns-clause-judged g c = λ files told.
    let end : c.pages.ahead.at ≡ c.args.size = omega (arith, c.pages.ahead.in_file, c.pages.invariant.size, c.pages-test.false) in
    subst (Follows (bytes_at files c.args.id) c.pages.judging) end (c.pages.invariant.judged files told)
