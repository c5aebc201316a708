use Rattle.std.proofs.Common.{arith, sym, refl, inl, true, false}
use Rattle.std.proofs.lemmas.List.{length-map}
use Rattle.cut_slice.specs.Slices.{slice_view}
use Rattle.cut_slice.specs.Sources.{packets_view}
use Rattle.cut_slice.proofs.CuttingLemmas.{key_is}
use Rattle.cut_slice.proofs.cutting.cut_source.Goals as goal

pub returns-in-Err-NotPlain-clause-refused : goal.returns-in-Err-NotPlain-clause-refused
returns-in-Err-NotPlain-clause-refused g c = inl (c.in-Err-NotPlain.ensures.not_plain (rw c.in-Err-NotPlain.field-0-is refl))

pub returns-then-not-is_key-clause-refused : goal.returns-then-not-is_key-clause-refused
returns-then-not-is_key-clause-refused g c = (
  packets_view c.in-Ok.source,
  c.in-Ok.ensures.plain,
  omega (arith, length-map c.in-Ok.source.frames.items (λ frame. frame.now)),
  key_is (λ frame. frame.now) c.in-Ok.source.frames.items (slice_view c.args.slice) (packets_view c.in-Ok.source) c.index.result.now false refl (omega arith) c.index.ensures (sym c.if-not-is_key.ensures),
)

pub returns-in-Ok-copy-clause-cut : goal.returns-in-Ok-copy-clause-cut
returns-in-Ok-copy-clause-cut g c = record {
  packets = packets_view c.in-Ok.source;
  plain = c.in-Ok.ensures.plain;
  range = omega (arith, length-map c.in-Ok.source.frames.items (λ frame. frame.now));
  key = key_is (λ frame. frame.now) c.in-Ok.source.frames.items (slice_view c.args.slice) (packets_view c.in-Ok.source) c.index.result.now true refl (omega arith) c.index.ensures (sym c.if-not-is_key.ensures);
  makes = c.in-Ok-copy.ensures.written;
}
