use Rattle.std.proofs.Math.ListN.{length-set}
use Rattle.std.proofs.Common.{ℤ, ◌≡◌, ◌∙◌, ℕ, ◌+◌, ◌-◌, ◌/◌, ◌<◌, ◌≤◌, List, [], ◌∷◌, ◌++◌, length, get_or, take, drop, Bool, refl, sym, ap, subst, arith, length-drop}
use Rattle.std.proofs.lemmas.List.{append-nil, drop_all, length-map, length-take}
use Rattle.std.proofs.lemmas.Result.{err_from_is_err_and}
use Rattle.vid_geom.specs.CodedOrder.{order_of}
use Rattle.thr_token.specs.Coefficients.{Source, at_place, is_luma, token_in}
use Rattle.thr_token.specs.Listing.{IsListing, blocks_by}
use Rattle.thr_token.specs.Standing.{lumas_of}
use Rattle.thr_token.specs.Views.{as_numbers}
use Rattle.thr_token.proofs.PlaceLemmas.{here}
use Rattle.thr_token.proofs.WaitingLemmas.{IsKept, block_ends, block_stays, from_block, from_end, from_front, next_block, word_fault, word_more, word_within}
use Rattle.thr_token.proofs.trees.PlaceTrees.at_place.Goals.{then-stands-lt-ENDED, else-stands-lt-ENDED}
use Rattle.thr_token.proofs.trees.PlaceTrees.at_place.Goals as goal

-- the word that is looked at, and those behind it
listing_here : (blocks k kept : ℕ) (list : List ℕ) → k < length list → IsListing blocks (take kept list ++ drop k list) → IsListing blocks (take kept list ++ get_or list k 0 ∷ drop (k + 1) list)
listing_here blocks k kept list h listing = subst (λ words. IsListing blocks (take kept list ++ words)) (here list k 0 h) listing

within : (lumas : List Bool) (k kept : ℕ) (list : List ℕ) → k < length list → IsListing (length lumas) (take kept list ++ drop k list) → get_or list k 0 / 64 < length lumas
within lumas k kept list h listing = word_within lumas (take kept list) (get_or list k 0) (drop (k + 1) list) (listing_here (length lumas) k kept list h listing)

pub list-init : goal.list-init
list-init c =
    let trees = c.args.self.now in
    let lumas = lumas_of trees.all.geom.now in
    let long = length-map (order_of trees.all.geom.now) is_luma in
    rw c.copy-bits.ensures (record {
      end = refl;
      low = omega arith;
      values_are = omega arith;
      counts_are = omega arith;
      listing = c.requires.list;
      same = from_front (token_in trees.all.forest.now (as_numbers trees.all.numbers)) trees.place lumas c.args.list.now c.args.values.now c.args.counts.now c.args.active c.args.r.now.left
          trees.place_is c.requires.list (omega arith) (omega arith);
    })

pub is_luma-requires : goal.is_luma-requires
is_luma-requires c =
    let s = c.list in
    let geom = c.args.self.now.all.geom.now in
    omega (arith, length-map (order_of geom) is_luma, within (lumas_of geom) s.k s.kept s.list (omega arith) s.invariant.listing)

pub bounds-values-i : goal.bounds-values-i
bounds-values-i c =
    let s = c.list in
    omega (arith, within (lumas_of c.args.self.now.all.geom.now) s.k s.kept s.list (omega arith) s.invariant.listing)

pub bounds-counts-i : goal.bounds-counts-i
bounds-counts-i c =
    let s = c.list in
    omega (arith, within (lumas_of c.args.self.now.all.geom.now) s.k s.kept s.list (omega arith) s.invariant.listing)

others_are : (k kept others : ℕ) (list : List ℕ) → k < length list → kept ≤ k → others ≡ kept + (length list - k - 1) → others ≡ length (take kept list) + length (drop (k + 1) list)
others_are k kept others list h low is = omega (arith, length-take kept list, length-drop (k + 1) list)

at_word : {S : Type 0} (next : Source S) (place : ℕ) (lumas : List Bool) (k kept : ℕ) (list : List ℕ) (values : List (List ℤ)) (counts : List ℕ) (run : ℕ) (source : S) → k < length list
    → from_block next place (blocks_by lumas (take kept list ++ drop k list) values counts) (next_block (length lumas) (drop k list)) run source
    ≡ from_block next place (blocks_by lumas (take kept list ++ get_or list k 0 ∷ drop (k + 1) list) values counts) (get_or list k 0 / 64) run source
at_word next place lumas k kept list values counts run source h =
    ap (λ words. from_block next place (blocks_by lumas (take kept list ++ words) values counts) (next_block (length lumas) words) run source) (here list k 0 h)

pub returns-in_err-stands-clause-value : goal.returns-in_err-stands-clause-value
returns-in_err-stands-clause-value c =
    let p = err_from_is_err_and c.from_residual.result c.from_residual.ensures.1 in
    let s = c.list in
    let trees = c.args.self.now in
    let lumas : List Bool = lumas_of trees.all.geom.now in
    let next = token_in trees.all.forest.now (as_numbers trees.all.numbers) in
    let listing = listing_here (length lumas) s.k s.kept s.list (omega arith) s.invariant.listing in
    let fault = word_fault next trees.place lumas (take s.kept s.list) (get_or s.list s.k 0) (drop (s.k + 1) s.list) s.values s.counts s.run s.bits.left _ listing s.invariant.values_are s.invariant.counts_are
    _ _ (others_are s.k s.kept _ s.list (omega arith) s.invariant.low refl) c.is_luma.ensures c.in_err-stands.ensures.value in
    rw (p.1, p.2) (sym s.invariant.same ∙ at_word next trees.place lumas s.k s.kept s.list s.values s.counts s.run s.bits.left (omega arith) ∙ fault)

pub list-preserved : goal.list-preserved
list-preserved c =
    let s = c.list in
    let trees = c.args.self.now in
    let lumas : List Bool = lumas_of trees.all.geom.now in
    let next = token_in trees.all.forest.now (as_numbers trees.all.numbers) in
    let word : ℕ = get_or s.list s.k 0 in
    let listing = listing_here (length lumas) s.k s.kept s.list (omega arith) s.invariant.listing in
    let after = word_more next trees.place lumas (take s.kept s.list) word (drop (s.k + 1) s.list) s.values s.counts s.run c.in_ok-stands.stands c.visit.new.block c.visit.new.count c.visit.new.run s.bits.left c.visit.new.r.left
    trees.place_is c.in_ok-stands.ensures.small listing s.invariant.values_are s.invariant.counts_are
    _ _ (others_are s.k s.kept _ s.list (omega arith) s.invariant.low refl) c.is_luma.ensures c.in_ok-stands.ensures.value in
    let kept_is : IsKept s.k s.kept s.list c.if-stands-lt-ENDED.kept c.if-stands-lt-ENDED.list (word / 64) c.in_ok-stands.stands =
    (elim c.if-stands-lt-ENDED.branch [
      | then-stands-lt-ENDED w ↦ block_stays s.k s.kept s.list _ _ (word / 64) c.in_ok-stands.stands w.word_of.result (omega arith) s.invariant.low w.if-stands-lt-ENDED.true w.word_of.ensures w.list-is w.kept-is
      | else-stands-lt-ENDED w ↦ block_ends s.k s.kept s.list _ _ (word / 64) c.in_ok-stands.stands s.invariant.low w.if-stands-lt-ENDED.false w.list-is w.kept-is
    ]) in
    record {
      end = omega (arith, c.in_ok-stands.ensures.end);
      low = kept_is.low_is;
      values_are = length-set s.values (word / 64) c.visit.new.block ∙ s.invariant.values_are;
      counts_are = length-set s.counts (word / 64) c.visit.new.count ∙ s.invariant.counts_are;
      listing = subst (IsListing (length lumas)) (sym kept_is.words) after.listing;
      same = rw (kept_is.words, kept_is.behind) (after.same ∙ sym (at_word next trees.place lumas s.k s.kept s.list s.values s.counts s.run s.bits.left (omega arith)) ∙ s.invariant.same);
    }

pub returns : goal.returns
returns c =
    let s = c.list in
    let trees = c.args.self.now in
    let lumas : List Bool = lumas_of trees.all.geom.now in
    let next = token_in trees.all.forest.now (as_numbers trees.all.numbers) in
    let words : List ℕ = take s.kept s.list in
    let none : drop s.k s.list ≡ [] = drop_all s.k s.list (omega arith) in
    let same = subst (λ behind. from_block next trees.place (blocks_by lumas (words ++ behind) s.values s.counts) (next_block (length lumas) behind) s.run s.bits.left
    ≡ at_place next trees.place [] (blocks_by lumas c.args.list.now c.args.values.now c.args.counts.now) c.args.active c.args.r.now.left) none s.invariant.same in
    let listing : IsListing (length lumas) (words ++ []) = subst (λ behind. IsListing (length lumas) (words ++ behind)) none s.invariant.listing in
    record {
      value = sym same ∙ from_end next trees.place lumas words s.values s.counts s.run s.bits.left s.invariant.values_are s.invariant.counts_are;
      list = (omega arith, subst (IsListing (length lumas)) (append-nil words) listing);
      end = s.invariant.end;
    }
