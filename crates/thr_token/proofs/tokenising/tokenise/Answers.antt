use Rattle.std.proofs.Common.{◌≡◌, rules, ap, arith, length, map, None, List, ℤ, subst}
use Rattle.std.proofs.lemmas.List.Elements.{All-nil}
use Rattle.thr_token.specs.Coefficients.{first_place}
use Rattle.thr_token.specs.Standing.{lumas_of, standing}
use Rattle.thr_token.specs.Tokenised.{IsToken}
use Rattle.thr_token.specs.Telling.{Telling, from_place}
use Rattle.thr_token.proofs.TokenisedLemmas.{telling_none, telling_all, whole}
use Rattle.thr_token.proofs.tokenising.tokenise.Goals as goal

pub returns : goal.returns
returns c =
    let s = c.args.geom.now in
    let flags = c.args.flags.now in
    let values : List (List ℤ) = c.args.coeffs.now.values.items in
    let at : c.deref_mut.result.now ≡ map first_place flags = search rules in
    let lent : c.deref.result.now ≡ values = search rules in
    let none : Telling (whole s flags) (from_place 0) (lumas_of s) c.deref.result.now c.deref_mut.result.now c.new-tokens.result.items None =
    rw (lent, at, c.new-tokens.ensures.items) (telling_none s flags values c.requires.flags c.requires.blank) in
    let all : Telling (whole s flags) (from_place 64) (lumas_of s) values c.all_places.new.work c.all_places.new.tokens.items c.in_ok-run.run' =
    subst (λ (v : List (List ℤ)). Telling (whole s flags) (from_place 64) (lumas_of s) v c.all_places.new.work c.all_places.new.tokens.items c.in_ok-run.run') lent (c.in_ok-run.ensures.told (whole s flags) none) in
    record {
      tells = telling_all s flags values c.all_places.new.work c.close.new.tokens.items c.requires.values c.in_ok-run.ensures.low (record {
        read = all.read;
        counts = all.counts;
        sizes = all.sizes;
        each = all.each;
        told = c.in_ok-close.ensures.told (whole s flags) (from_place 64 (standing (lumas_of s) c.all_places.new.work all.read all.counts)) all.told;
      });
      few = omega (arith, c.in_ok-close.ensures.few, c.in_ok-run.ensures.few, ap length c.new-tokens.ensures.items);
      tokens = c.in_ok-close.ensures.tokens (c.in_ok-run.ensures.tokens (rw c.new-tokens.ensures.items (All-nil IsToken)));
    }
