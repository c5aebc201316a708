use Rattle.std.proofs.Common.{◌∙◌, ◌++◌, ap, append_assoc, arith}
use Rattle.std.proofs.lemmas.Result.{on_ok_weaker}
use Rattle.thr_token.specs.WrittenTokens.{Dc, Ac, tokens_code, part_code}
use Rattle.thr_token.proofs.WritingLemmas.{parts_are_all, told_back}
use Rattle.thr_token.proofs.writing.write_tokens.Goals as goal

pub returns-clause-reads_back : goal.returns-clause-reads_back
unfolding tokens_code
returns-clause-reads_back c =
    on_ok_weaker c.write_part-2.result
    (λ written. λ s flags results tells. record {
      more = tokens_code c.args.forest.now c.args.tables.now c.args.tokens.now;
      added = written ∙ ap (λ z. z ++ part_code c.args.forest.now c.args.tables.now Ac c.args.tokens.now) c.in_ok-write_part.ensures.written
          ∙ append_assoc c.args.w.now (part_code c.args.forest.now c.args.tables.now Dc c.args.tokens.now) (part_code c.args.forest.now c.args.tables.now Ac c.args.tokens.now);
      reads = λ rest. told_back c.args.forest.now c.args.tables.now s flags results c.args.tokens.now rest c.requires.dc c.requires.ac c.requires.tokens c.requires.held tells;
    }) c.write_part-2.ensures.written

pub returns-clause-few : goal.returns-clause-few
returns-clause-few c = on_ok_weaker c.write_part-2.result (λ few. omega (arith, few, c.in_ok-write_part.ensures.few, parts_are_all c.args.tokens.now)) c.write_part-2.ensures.few
