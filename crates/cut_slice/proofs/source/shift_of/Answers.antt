use Rattle.std.proofs.Common.{arith}
use Rattle.cut_slice.proofs.SourceLemmas.{some_bits, more_bits, shift_is, tail_bits}
use Rattle.cut_slice.proofs.source.shift_of.Goals as goal

pub unreachable-requires : goal.unreachable-requires
unreachable-requires c = some_bits 6 c.args.ident.now c.new-reader.result.left c.requires (tail_bits c.args.ident.now _ c.new-reader.ensures.left) (omega arith) c.in_default.ensures.value

pub unreachable-requires-in_default-take : goal.unreachable-requires-in_default-take
unreachable-requires-in_default-take c = more_bits c.in-Ok.field-0 c.args.ident.now c.new-reader.result.left c.take.new.self.left c.requires (tail_bits c.args.ident.now _ c.new-reader.ensures.left) c.in-Ok.ensures.value c.in_default-take.ensures.value

pub returns-clause-shift : goal.returns-clause-shift
returns-clause-shift c = shift_is c.in-Ok.field-0 c.in-Ok-take.shift c.args.ident.now c.new-reader.result.left c.take.new.self.left _ (tail_bits c.args.ident.now _ c.new-reader.ensures.left) c.in-Ok.ensures.value c.in-Ok-take.ensures.value
