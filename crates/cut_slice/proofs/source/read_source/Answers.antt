use Rattle.std.proofs.Common.{◌≡◌, ap, sym, ◌∙◌, map, None, Some}
use Rattle.ogg_page.specs.Page.{view}
use Rattle.cut_slice.specs.Plain.{plain_of}
use Rattle.cut_slice.proofs.source.read_source.Goals as goal

pub returns-clause-not_plain : goal.returns-clause-not_plain
returns-clause-not_plain c = λ refused packets plain.
    let same : plain.pages ≡ map view c.in_ok-pages.pages.items = c.in_ok-pages.ensures.only plain.pages plain.fill in
    let none : plain_of (map view c.in_ok-pages.pages.items) ≡ None = rw (c.deref.ensures.value) at (c.source_of.ensures.not_plain refused) in
    let some : plain_of (map view c.in_ok-pages.pages.items) ≡ Some packets = ap plain_of (sym same) ∙ plain.form in
    cc
