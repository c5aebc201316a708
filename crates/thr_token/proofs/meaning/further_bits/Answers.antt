use Rattle.std.proofs.Common.{◌≡◌, rules}
use Rattle.thr_token.specs.Tokens.{further_bits}
use Rattle.thr_token.proofs.TreeLemmas.{few_bits}
use Rattle.thr_token.proofs.meaning.further_bits.Goals as goal

pub returns-clause-few : goal.returns-clause-few
returns-clause-few c =
    let is : c.from-2.result ≡ further_bits c.args.token = search rules in
    rw is (few_bits c.args.token c.requires)
