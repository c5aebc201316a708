use Rattle.std.proofs.Common.{◌≡◌, ◌∙◌, ◌<◌, length, get_or, ap, arith}
use Rattle.std.proofs.lemmas.List.Elements.{All-get_or}
use Rattle.vid_plane.specs.Frames.{sealed_frame}
use Rattle.thr_setup.specs.Setup.{contents}
use Rattle.thr_loop.specs.Filtered.{filtered_frame}
use Rattle.thr_frame.specs.CodedFrame.{frame_of}
use Rattle.thr_frame.specs.Rebuilt.{rebuilt_frame, unfiltered}
use Rattle.thr_frame.specs.Sources.{refs_of}
use Rattle.thr_frame.proofs.FilteredLemmas.{filtered_sealed}
use Rattle.thr_frame.proofs.frame.paint_frame.Goals as goal

pub bounds-deref-0 : goal.bounds-deref-0
unfolding frame_of
bounds-deref-0 c = omega (arith, c.args.from.now.whole.some, ap length c.deref.ensures.0)

pub bounds-limits-from : goal.bounds-limits-from
unfolding frame_of
bounds-limits-from c =
    let items = c.args.from.now.coded.now.qis.items in
    let small : get_or items 0 0 < 64 = All-get_or (λ qi. qi < 64) items 0 0 c.args.from.now.whole.some c.args.from.now.whole.small in
    omega (arith, c.from.ensures, ap (λ l. get_or l 0 0) c.deref.ensures.0)

pub filter-requires-clause-flags : goal.filter-requires-clause-flags
unfolding frame_of
filter-requires-clause-flags c = ap length c.deref-2.ensures.value ∙ c.args.from.now.whole.sized.flags

pub returns-clause-value : goal.returns-clause-value
unfolding rebuilt_frame frame_of
returns-clause-value c =
    let from = c.args.from.now in
    let s = from.geom.now in
    let limits = from.setup.now.limits.of in
    let painted = c.rebuild_planes.new.now in
    let flags = from.coded.now.flags.items in
    let qi : c.from.result ≡ get_or from.coded.now.qis.items 0 0 = c.from.ensures ∙ ap (λ l. get_or l 0 0) c.deref.ensures.0 in
    ap sealed_frame c.filter.ensures.value
    ∙ ap (λ l. sealed_frame (filtered_frame s l (get_or limits c.from.result 0) painted)) c.deref-2.ensures.value
    ∙ ap (λ k. sealed_frame (filtered_frame s flags (get_or limits k 0) painted)) qi
    ∙ filtered_sealed s flags (get_or limits (get_or from.coded.now.qis.items 0 0) 0) painted (unfiltered (contents from.setup.now) s (refs_of from) (frame_of from.coded.now)) c.rebuild_planes.ensures.value
