use Rattle.ogg_mux.proofs.MuxLemmas.{added, grown-shut, grown-there, room-kept}
use Rattle.ogg_mux.proofs.packets.add.Goals as goal

pub returns-clause-all : goal.returns-clause-all
returns-clause-all c last more = rw c.grow.ensures (added c.args.serial last c.open.new.held c.open.new.ready.items c.args.ready.now.items c.args.held.now _ more c.open.ensures.open (c.open.ensures.same last _ more))

pub returns-clause-room : goal.returns-clause-room
returns-clause-room c none segments size room = rw c.grow.ensures (room-kept _ _ _ _ c.open.new.held c.args.held.now c.args.bytes.now _ _ segments size none c.open.ensures.capacity c.open.ensures.kept c.open.ensures.turned room)

pub returns-clause-shut : goal.returns-clause-shut
returns-clause-shut c e = rw c.grow.ensures (grown-shut c.open.new.held c.args.bytes.now _ _ e)

pub returns-clause-there : goal.returns-clause-there
returns-clause-there c = rw c.grow.ensures (grown-there c.open.new.held _)
