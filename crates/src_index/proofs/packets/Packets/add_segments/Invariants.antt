use Rattle.std.proofs.Common.{◌≡◌, drop, sum, length}
use Rattle.ogg_page.specs.Packets.{segments, packets_from, left_from}
use Rattle.ogg_link.specs.Progress.{after_pieces, Holds}
use Rattle.src_index.specs.Checks.{packets_over}
use Rattle.src_index.specs.Headers.{said_of}
use Rattle.src_index.specs.Kept.{with_pieces}
use Rattle.src_index.specs.Holding.{kept_of, AreTallied}
use Rattle.src_index.proofs.packets.Packets.add_segments.Given as goal

-- the segments that are left do from here what all did from the start
abbrev pub invariant-lacing : goal.invariant-lacing
invariant-lacing l = record {
  sizes : sum (drop l.i l.fn.lacing) ≡ length l.rest;
  holds : Holds l.book l.self.begun.items;
  tallied : AreTallied l.book l.self;
  book : after_pieces l.book (segments (drop l.i l.fn.lacing) l.rest) ≡ after_pieces l.fn.book (segments l.fn.lacing l.fn.body);
  said : packets_over l.at l.book.packets l.book.last_key (said_of l.self.headers) (packets_from l.self.begun.items (segments (drop l.i l.fn.lacing) l.rest))
      ≡ packets_over l.at l.fn.book.packets l.fn.book.last_key (said_of l.fn.self.headers) (packets_from l.fn.self.begun.items (segments l.fn.lacing l.fn.body));
  begun : left_from l.self.begun.items (segments (drop l.i l.fn.lacing) l.rest) ≡ left_from l.fn.self.begun.items (segments l.fn.lacing l.fn.body);
  kept : with_pieces l.page l.i (kept_of l.self) (segments (drop l.i l.fn.lacing) l.rest) ≡ with_pieces l.page 0 (kept_of l.fn.self) (segments l.fn.lacing l.fn.body);
}
