use Rattle.std.proofs.Common.{◌≡◌, ◌+◌, ◌*◌, ◌≤◌, List, All, None, length}
use Rattle.vid_geom.specs.CodedOrder.{order_of}
use Rattle.thr_token.specs.declared.token.Token.{Token}
use Rattle.thr_token.specs.Standing.{lumas_of}
use Rattle.thr_token.specs.Tokenised.{IsToken}
use Rattle.thr_token.specs.Telling.{Answer, Telling, from_place, said}
use Rattle.thr_token.proofs.tokenising.all_places.Given as goal

-- the blocks had their turns at the places so far
abbrev pub invariant-places : goal.invariant-places
invariant-places l = record {
  told : (whole : List Token → Answer) → Telling whole (from_place 0) (lumas_of l.geom) l.values l.fn.work l.fn.tokens.items None → Telling whole (from_place l.place) (lumas_of l.geom) l.values l.work l.tokens.items l.run;
  size : length l.work ≡ length l.fn.work;
  low : All (λ p. l.place ≤ p) l.work;
  few : said l.tokens.items l.run ≤ length l.fn.tokens.items + l.place * length (order_of l.geom);
  tokens : All IsToken l.fn.tokens.items → All IsToken l.tokens.items;
}
