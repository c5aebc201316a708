use Rattle.std.proofs.Common.{sym}
use Rattle.std.proofs.lemmas.Option.{slice_get_within}
use Rattle.vid_geom.specs.CodedOrder.{block_of, order_of}
use Rattle.vid_geom.proofs.OrderLemmas.{order_at, place_at, place_in_plane}
use Rattle.vid_geom.proofs.geom.Geom.place.Goals as goal

pub returns-clause-back : goal.returns-clause-back
unfolding block_of
returns-clause-back c = rw c.blocks_before.ensures.value (order_at c.args.self.now c.args.block.pli c.place.result _ c.requires.plane (rw c.plane.ensures at c.place.ensures.value))

pub returns-clause-value : goal.returns-clause-value
returns-clause-value c = sym (place_at c.args.self.now _ c.args.block (returns-clause-back c))

pub returns-clause-plane : goal.returns-clause-plane
returns-clause-plane c = rw (returns-clause-value c) (place_in_plane c.args.self.now c.args.block (c.requires.plane, c.requires.column, c.requires.row))

pub returns-clause-below : goal.returns-clause-below
returns-clause-below c = slice_get_within (order_of c.args.self.now) _ c.args.block (returns-clause-back c)
