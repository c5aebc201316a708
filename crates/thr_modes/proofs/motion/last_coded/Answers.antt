use Rattle.std.proofs.Common.{◌≡◌, ◌∙◌, ◌+◌, ◌<◌, length, map, drop, get_or, sym, ap, arith}
use Rattle.std.proofs.lemmas.List.{get_or-map, length-map}
use Rattle.thr_modes.specs.Vectors.{offset_of}
use Rattle.thr_modes.specs.Motion.{last_coded}
use Rattle.thr_modes.proofs.LastLemmas.{last_taken, last_kept, last_done}
use Rattle.thr_modes.proofs.motion.last_coded.Goals as goal
use Rattle.thr_modes.proofs.motion.last_coded.Goals.{then-luma-b, else-luma-b}

pub luma-preserved : goal.luma-preserved
luma-preserved c =
    let vectors = map offset_of c.args.vectors in
    let within : c.luma.b < length vectors = omega (arith, length-map c.args.vectors offset_of) in
    elim c.if-luma-b.branch [
      | then-luma-b w ↦
          let is : get_or vectors c.luma.b (offset_of c.luma.last) ≡ offset_of c.if-luma-b.last = get_or-map offset_of c.args.vectors c.luma.b w.index-vectors-b.result (offset_of c.luma.last) (omega arith) ∙ ap offset_of (sym w.last-is) in
          last_taken c.args.luma vectors c.luma.b (offset_of c.if-luma-b.last) (offset_of c.luma.last) (omega arith) within w.if-luma-b.true is ∙ c.luma.invariant
      | else-luma-b w ↦
          let after = last_coded (drop (c.luma.b + 1) c.args.luma) (drop (c.luma.b + 1) vectors) in
          ap (λ last. after (offset_of last)) w.last-is ∙ last_kept c.args.luma vectors c.luma.b (offset_of c.luma.last) (omega arith) within w.if-luma-b.false ∙ c.luma.invariant
    ]

pub returns : goal.returns
returns c = sym (last_done c.args.luma (map offset_of c.args.vectors) c.luma.b (offset_of c.luma.last) (omega arith)) ∙ c.luma.invariant
