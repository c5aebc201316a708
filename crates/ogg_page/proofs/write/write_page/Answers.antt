use Rattle.std.proofs.Common.{arith, refl, append_assoc}
use Rattle.ogg_page.proofs.WrittenLemmas.{page_read, ArePages-written_page}
use Rattle.ogg_page.proofs.PagesLemmas.{ArePages-append}
use Rattle.ogg_page.proofs.write.write_page.Goals as goal

pub returns-in_err-try_reserve-clause-reads_back : goal.returns-in_err-try_reserve-clause-reads_back
returns-in_err-try_reserve-clause-reads_back c = λ rest. page_read _ _ _ _ _ _ rest (omega arith) (omega arith) (omega arith) c.requires.shape.sum

pub returns-clause-written : goal.returns-clause-written
returns-clause-written c = rw (c.append-3.ensures.items, c.append-2.ensures.items, c.append.ensures.items, c.in_ok-try_reserve.ensures.items, append_assoc, append_assoc, c.checked_header-header.ensures) refl

pub returns-clause-reads_back : goal.returns-clause-reads_back
returns-clause-reads_back c = λ rest. page_read _ _ _ _ _ _ rest (omega arith) (omega arith) (omega arith) c.requires.shape.sum

pub returns-clause-pages : goal.returns-clause-pages
returns-clause-pages c = λ pages h. rw (c.append-3.ensures.items, c.append-2.ensures.items, c.append.ensures.items, c.in_ok-try_reserve.ensures.items, append_assoc, append_assoc, c.checked_header-header.ensures) (ArePages-append _ _ pages _ h (ArePages-written_page _ (record { granule = omega arith; serial = omega arith; number = omega arith; shape = c.requires.shape.sum })))
