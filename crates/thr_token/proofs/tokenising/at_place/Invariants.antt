use Rattle.std.proofs.Common.{◌≡◌, ◌+◌, ◌<◌, ◌≤◌, ℕ, List, All, get_or, length}
use Rattle.thr_token.specs.declared.token.Token.{Token}
use Rattle.thr_token.specs.Standing.{lumas_of}
use Rattle.thr_token.specs.Tokenised.{IsToken}
use Rattle.thr_token.specs.Telling.{Answer, Telling, from_block, from_place, said}
use Rattle.thr_token.proofs.tokenising.at_place.Given as goal

-- the blocks so far had their turns
abbrev pub invariant-order : goal.invariant-order
invariant-order l = record {
  told : (whole : List Token → Answer) → Telling whole (from_place l.place) (lumas_of l.geom) l.values l.fn.work l.fn.tokens.items l.fn.held → Telling whole (from_block l.place l.b) (lumas_of l.geom) l.values l.work l.tokens.items l.run;
  size : length l.work ≡ length l.fn.work;
  low : (i : ℕ) → i < length l.work → l.place ≤ get_or l.work i 0;
  behind : (i : ℕ) → i < l.b → l.place < get_or l.work i 0;
  few : said l.tokens.items l.run ≤ said l.fn.tokens.items l.fn.held + l.b;
  tokens : All IsToken l.fn.tokens.items → All IsToken l.tokens.items;
}
