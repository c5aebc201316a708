use Rattle.std.proofs.Common.{arith}
use Rattle.thr_ident.specs.Fields.{header_from}
use Rattle.thr_ident.proofs.RuleLemmas.{kept, header_same}
use Rattle.thr_ident.proofs.ident.Ident.of.Goals as goal

pub invariant_of-result : goal.invariant_of-result
invariant_of-result c =
    let keeps = kept (header_from c.args.fields.now) c.requires.faultless in
    record {
      coded = (keeps.wide, keeps.high);
      small = keeps.small;
      picture = (keeps.picw, keeps.pich);
      across = keeps.across;
      upwards = keeps.upwards;
      rate = (keeps.frn, keeps.frd);
      format = (omega arith, keeps.pf);
      byte = (omega arith, omega arith, omega arith, omega arith);
      two_bytes = (omega arith, omega arith);
      three_bytes = (omega arith, omega arith, omega arith);
      four_bytes = (omega arith, omega arith);
      bits = (omega arith, omega arith);
    }

pub returns : goal.returns
returns c =
    let keeps = kept (header_from c.args.fields.now) c.requires.faultless in
    header_same (header_from c.args.fields.now) keeps.vmaj keeps.vmin keeps.reserved
