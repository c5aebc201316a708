use Rattle.std.proofs.Common.{◌≡◌, ◌-◌, ◌≤◌, ◌^◌, [], length}
use Rattle.vid_desk.specs.Meaning.{Told, with_reads}
use Rattle.src_index.specs.Gather.{first_packet, segments_from}
use Rattle.src_index.specs.Pages.{marks_of}
use Rattle.src_index.specs.Holding.{place_of}
use Rattle.src_index.proofs.packet.gather.Given as goal

-- the segments from here on give the packet that those from its place give
abbrev pub invariant-pages : goal.invariant-pages
invariant-pages g l = record {
  packet : Told (g.D.Desk.sees l.fn.desk) l.id (λ bytes. first_packet l.into.items (segments_from bytes (marks_of l.pages) (record { page = l.number; segment = l.first })) ≡ first_packet [] (segments_from bytes (marks_of l.pages) (place_of l.fn.place)));
  few : length l.into.items ≤ 2 ^ 30;
  kept : with_reads (g.D.Desk.sees l.fn.desk) (g.D.Desk.sees l.desk);
  later : (g.D.Desk.sees l.fn.desk).read_faults ≤ (g.D.Desk.sees l.desk).read_faults;
}

abbrev pub decreases-pages : goal.decreases-pages
decreases-pages g l = length (marks_of l.pages) - l.number
