use Rattle.std.proofs.Common.{◌≡◌, ◌∙◌, ◌<◌, length, get_or, map, ap, sym, arith}
use Rattle.std.proofs.lemmas.List.{get_or-map, length-map}
use Rattle.src_index.specs.Index.{Frame, Index}
use Rattle.src_index.specs.Holding.{frame_of}
use Rattle.src_index.proofs.source.Source.quantiser.Goals as goal

pub returns-clause-value : goal.returns-clause-value
returns-clause-value c =
    let raw = c.index.result.now in
    let frames = c.self.inside.frames.items in
    let view : map frame_of frames ≡ c.args.self.now.frames = ap (λ (i : Index). i.frames) c.self.view_is in
    let low : c.args.n < length frames = omega (arith, c.requires, length-map frames frame_of, ap length view) in
    let is : get_or c.args.self.now.frames c.args.n (frame_of raw) ≡ frame_of raw = ap (λ fs. get_or fs c.args.n (frame_of raw)) (sym view) ∙ get_or-map frame_of frames c.args.n raw (frame_of raw) low ∙ ap frame_of (sym c.index.ensures) in
    ap (λ (f : Frame). f.quantiser) (sym is) ∙ sym (get_or-map (λ (f : Frame). f.quantiser) c.args.self.now.frames c.args.n (frame_of raw) 0 c.requires)
