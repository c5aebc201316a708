use Rattle.std.proofs.Common.{◌<◌, length, sym, arith}
use Rattle.std.proofs.lemmas.List.{length-map}
use Rattle.src_index.specs.Index.{keys_of}
use Rattle.cut_app.proofs.CheckLemmas.{keys_more, keys_all, byte_small}
use Rattle.cut_app.proofs.checking.key_count.Goals as goal

pub frames-preserved : goal.frames-preserved
frames-preserved c =
    let low : c.frames.n < length (keys_of c.args.source.now) = omega (arith, length-map c.args.source.now.frames (λ frame. frame.key)) in
    record {
      counted = rw (c.frames.invariant.counted, c.from-keys.ensures, c.is_key.ensures) (sym (keys_more (keys_of c.args.source.now) c.frames.n low));
      few = omega (arith, c.frames.invariant.few, c.from-keys.ensures, byte_small c.is_key.result);
    }

pub returns : goal.returns
returns c = rw c.frames.invariant.counted (keys_all c.args.source.now c.frames.n (omega arith))
