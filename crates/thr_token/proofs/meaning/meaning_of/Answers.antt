use Rattle.std.proofs.Common.{◌≡◌, ◌∙◌, ap, sym, arith}
use Rattle.thr_token.specs.Tokens.{meaning_of}
use Rattle.thr_token.proofs.meaning.meaning_of.Goals as goal

-- the last token
pub returns-in_default : goal.returns-in_default
unfolding meaning_of
returns-in_default c =
    let last : c.args.token ≡ 31 = omega arith in
    c.valued-in_default.ensures ∙ sym (ap (λ token. meaning_of token c.args.extra) last)
