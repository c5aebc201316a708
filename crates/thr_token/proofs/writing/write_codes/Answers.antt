use Rattle.std.proofs.Common.{◌≡◌, ◌∙◌, ◌++◌, ap, append_assoc, false, List, get_or, sym, subst, take, true, arith}
use Rattle.std.proofs.lemmas.List.{append-nil, take_more}
use Rattle.std.proofs.lemmas.List.Sums.{count_by_more_no, count_by_more_yes}
use Rattle.std.specs.Prelude.{IsSome}
use Rattle.thr_token.specs.declared.token.Token.{Token}
use Rattle.thr_token.specs.WrittenTokens.{code_for, codes_in, in_part, token_code}
use Rattle.thr_token.specs.Views.{as_numbers, as_part}
use Rattle.thr_token.proofs.WritingLemmas.{codes_more, codes_same, codes_none, numbers_here}
use Rattle.thr_token.proofs.writing.write_codes.Goals.{then-has+in_ok-write_token, else-has}
use Rattle.thr_token.proofs.writing.write_codes.Goals as goal

pub write_token-requires-clause-held : goal.write_token-requires-clause-held
write_token-requires-clause-held c =
    let token : Token = get_or c.args.tokens.now c.tokens.token-index (record { place = 0; luma = false; token = 0; extra = 0 }) in
    let here : in_part (as_part c.args.part) token.place ≡ true = sym c.has.ensures ∙ c.if-has.true in
    subst (λ n. IsSome (code_for c.args.forest.now n token)) (numbers_here c.args.tables.now (as_part c.args.part) token.place here ∙ sym c.of-numbers.ensures)
    (c.requires.held c.tokens.token-index (record { place = 0; luma = false; token = 0; extra = 0 }) c.tokens-test.true)

pub tokens-init : goal.tokens-init
tokens-init c = record {
  written = rw (codes_none c.args.forest.now c.args.tables.now (as_part c.args.part)) (sym (append-nil c.args.w.now));
  few = omega arith;
}

pub tokens-preserved : goal.tokens-preserved
tokens-preserved c =
    let i = c.tokens.token-index in
    let all : List Token = c.args.tokens.now in
    let token : Token = get_or all i (record { place = 0; luma = false; token = 0; extra = 0 }) in
    let more = take_more all i (record { place = 0; luma = false; token = 0; extra = 0 }) c.tokens-test.true in
    elim c.if-has.branch [
      | then-has+in_ok-write_token w ↦
          let here : in_part (as_part c.args.part) token.place ≡ true = sym c.has.ensures ∙ w.if-has.true in
          let count = count_by_more_yes (λ token. in_part (as_part c.args.part) token.place) all i (record { place = 0; luma = false; token = 0; extra = 0 }) c.tokens-test.true here in
          record {
            written = w.w-is ∙ w.in_ok-write_token.ensures.written ∙ ap (λ z. z ++ token_code c.args.forest.now (as_numbers c.of-numbers.result) token) c.tokens.invariant.written
                ∙ append_assoc c.args.w.now (codes_in c.args.forest.now c.args.tables.now (as_part c.args.part) (take i all)) (token_code c.args.forest.now (as_numbers c.of-numbers.result) token)
                ∙ ap (λ z. c.args.w.now ++ z)
                (ap (λ n. codes_in c.args.forest.now c.args.tables.now (as_part c.args.part) (take i all) ++ token_code c.args.forest.now n token) c.of-numbers.ensures
                ∙ sym (codes_more c.args.forest.now c.args.tables.now (as_part c.args.part) (take i all) token here) ∙ ap (codes_in c.args.forest.now c.args.tables.now (as_part c.args.part)) (sym more));
            few = rw w.w-is (omega (arith, count, w.in_ok-write_token.ensures.few, c.tokens.invariant.few));
          }
      | else-has w ↦
          let here : in_part (as_part c.args.part) token.place ≡ false = sym c.has.ensures ∙ w.if-has.false in
          let count = count_by_more_no (λ token. in_part (as_part c.args.part) token.place) all i (record { place = 0; luma = false; token = 0; extra = 0 }) c.tokens-test.true here in
          record {
            written = w.w-is ∙ c.tokens.invariant.written ∙ ap (λ z. c.args.w.now ++ z) (sym (codes_same c.args.forest.now c.args.tables.now (as_part c.args.part) (take i all) token here) ∙ ap (codes_in c.args.forest.now c.args.tables.now (as_part c.args.part)) (sym more));
            few = rw w.w-is (omega (arith, count, c.tokens.invariant.few));
          }
    ]
