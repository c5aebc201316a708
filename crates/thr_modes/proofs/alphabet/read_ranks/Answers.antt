use Rattle.std.proofs.Common.{rules, ◌∙◌, length-set, sym, arith}
use Rattle.vid_base.specs.Reading.{field}
use Rattle.thr_modes.proofs.EachLemmas.{item_more, items_done}
use Rattle.thr_modes.proofs.alphabet.read_ranks.Goals as goal

pub ranks-preserved : goal.ranks-preserved
ranks-preserved c = record {
  read = item_more (field 3) c.ranks.ranks 8 c.ranks.mode c.in_ok-ranks.field-0 c.ranks.r.left c.read_field.new.r.left c.ranks-test.true (omega (arith, c.ranks.invariant.long)) c.in_ok-ranks.ensures.value ∙ c.ranks.invariant.read;
  long = length-set c.ranks.ranks c.ranks.mode c.in_ok-ranks.field-0 ∙ c.ranks.invariant.long;
  end = search rules;
}

pub returns-clause-value : goal.returns-clause-value
returns-clause-value c = sym c.ranks.invariant.read ∙ items_done (field 3) c.ranks.ranks 8 c.ranks.mode c.ranks.r.left (omega arith) (omega (arith, c.ranks.invariant.long))
