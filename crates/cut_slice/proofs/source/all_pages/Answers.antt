use Rattle.std.proofs.Common.{◌≡◌, ◌++◌, ◌∷◌, [], rules, arith, length-drop, drop, map}
use Rattle.std.proofs.lemmas.List.{map-append}
use Rattle.ogg_page.specs.Page.{view}
use Rattle.cut_slice.proofs.SourceLemmas.{no_pages, front_step, only_step, front_end, only_end}
use Rattle.cut_slice.proofs.source.all_pages.Goals as goal

pub returns-in-Err-clause-not_plain : goal.returns-in-Err-clause-not_plain
returns-in-Err-clause-not_plain c = λ _ pages fill.
    let found = c.loop-at.invariant.only pages fill in
    no_pages (drop c.loop-at.at c.args.bytes.now) c.in-Err.field-0 found.0 (omega (arith, length-drop c.loop-at.at c.args.bytes.now)) c.in-Err.ensures.page found.2

pub loop-at-preserved : goal.loop-at-preserved
loop-at-preserved c =
    let pages : map view c.push.new.self.items ≡ map view c.loop-at.pages.items ++ view c.in-Ok.page ∷ [] = rw (c.in_ok-push.ensures.items) (map-append view c.loop-at.pages.items (c.in-Ok.page ∷ [])) in
    record {
      place = omega (arith, c.in-Ok.ensures.fits);
      front = rw (pages, c.size-at.ensures) (front_step c.args.bytes.now c.loop-at.at (map view c.loop-at.pages.items) (view c.in-Ok.page) c.in-Ok.ensures.page c.loop-at.invariant.front);
      only = rw (pages, c.size-at.ensures) (only_step c.args.bytes.now c.loop-at.at (map view c.loop-at.pages.items) (view c.in-Ok.page) c.loop-at-test.true c.in-Ok.ensures.page c.loop-at.invariant.only);
      shapes = search rules;
    }

pub returns-clause-pages : goal.returns-clause-pages
returns-clause-pages c = front_end c.args.bytes.now c.loop-at.at (map view c.loop-at.pages.items) c.loop-at-test.false c.loop-at.invariant.front

pub returns-clause-only : goal.returns-clause-only
returns-clause-only c = only_end c.args.bytes.now c.loop-at.at (map view c.loop-at.pages.items) c.loop-at-test.false c.loop-at.invariant.only
