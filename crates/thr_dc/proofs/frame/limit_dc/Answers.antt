use Rattle.std.proofs.Common.{List, [], Option, All, subst, sym}
use Rattle.std.proofs.lemmas.List.Elements.{All-nil}
use Rattle.vid_geom.specs.CodedOrder.{block_columns}
use Rattle.thr_dc.specs.Blocks.{Coded, IsSmall}
use Rattle.thr_dc.specs.Frames.{IsWithin, plane_of}
use Rattle.thr_dc.specs.Prediction.{applied, limited}
use Rattle.thr_dc.proofs.FrameLemmas.{frame_within, plane_within, rewritten, with_planes_within}
use Rattle.thr_dc.proofs.LawLemmas.{differences_within, limited_within}
use Rattle.thr_dc.proofs.frame.limit_dc.Goals as goal

pub returns-clause-value : goal.returns-clause-value
returns-clause-value c =
    let r = c.change_frame.ensures.values in
    rewritten limited c.args.geom.now c.args.flags.now c.args.kinds.now c.args.coeffs.now.values.items c.change_frame.new.coeffs.values.items c.requires.values r.planes r.changes

pub returns-clause-within : goal.returns-clause-within
returns-clause-within c =
    let s = c.args.geom.now in
    let flags = c.args.flags.now in
    let kinds = c.args.kinds.now in
    let old = c.args.coeffs.now.values.items in
    let new = c.change_frame.new.coeffs.values.items in
    let P : List (Option Coded) → Type 0 = All (IsSmall 580) in
    frame_within 580 s flags kinds new c.requires.flags
    (λ pli p. subst P (sym (c.change_frame.ensures.values.planes pli p))
    (limited_within (block_columns s pli) [] (plane_of s flags kinds old pli) (All-nil (IsSmall 580)) (plane_within 580 s flags kinds old pli c.requires.within)))

pub returns-clause-differences : goal.returns-clause-differences
returns-clause-differences c =
    let s = c.args.geom.now in
    let flags = c.args.flags.now in
    let kinds = c.args.kinds.now in
    let old = c.args.coeffs.now.values.items in
    let new = c.change_frame.new.coeffs.values.items in
    let within : IsWithin 580 flags new = returns-clause-within c in
    with_planes_within 580 applied s flags kinds new c.requires.flags
    (λ pli p.
    let P : List (Option Coded) → Type 0 = λ blocks. All (IsSmall 580) (applied (block_columns s pli) blocks) in
    subst P (sym (c.change_frame.ensures.values.planes pli p)) (differences_within (block_columns s pli) [] (plane_of s flags kinds old pli)))
    within
