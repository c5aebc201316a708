use Rattle.std.proofs.Common.{◌≡◌, ◌+◌, ◌*◌, ◌≤◌, ◌++◌, length, take}
use Rattle.thr_token.specs.WrittenTokens.{codes_in, tokens_in}
use Rattle.thr_token.specs.Views.{as_part}
use Rattle.thr_token.proofs.writing.write_codes.Given as goal

-- the tokens of the part so far were written
abbrev pub invariant-tokens : goal.invariant-tokens
invariant-tokens l = record {
  written : l.w ≡ l.fn.w ++ codes_in l.forest l.fn.tables (as_part l.part) (take l.token-index l.tokens);
  few : length l.w ≤ length l.fn.w + 44 * tokens_in (as_part l.part) (take l.token-index l.tokens);
}
