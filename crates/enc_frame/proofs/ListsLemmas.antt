-- The lists of a new encoder. `Encoder::with_rows` cites these.
use Rattle.std.proofs.Common.{◌≡◌, ◌∙◌, ℕ, length, replicate, pos, refl, ap}
use Rattle.std.proofs.lemmas.List.{length-replicate}
use Rattle.vid_base.specs.declared.shape.Shape.{Shape}
use Rattle.vid_geom.specs.CodedOrder.{order_of}
use Rattle.thr_frame.specs.declared.coded.Coded.{Coded}
use Rattle.thr_frame.specs.CodedFrame.{CodedFrame, frame_of}
use Rattle.thr_frame.specs.Parsed.{zero_frame}
use Rattle.enc_frame.specs.Drafted.{IsWhole}

pub whole_of : (s : Shape) (c : Coded) → frame_of c ≡ zero_frame s → IsWhole s c
unfolding frame_of
whole_of s c e = record {
  flags = ap (λ (f : CodedFrame). f.flags) e;
  modes = ap (λ (f : CodedFrame). f.modes) e;
  vectors = ap (λ (f : CodedFrame). f.vectors) e;
  values = ap (λ (f : CodedFrame). length f.values) e ∙ length-replicate (length (order_of s)) (replicate 64 (pos 0));
  counts = ap (λ (f : CodedFrame). length f.counts) e ∙ length-replicate (length (order_of s)) 0;
}
