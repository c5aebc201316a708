use Rattle.std.proofs.Common.{◌≡◌, ◌-◌, ◌++◌, [], ap, sym, ◌∙◌, arith, map, length, take, drop, ℕ}
use Rattle.std.proofs.lemmas.List.{length-map, length-take-le, length-drop}
use Rattle.std.specs.List.{take-map, drop-map}
use Rattle.std.proofs.lemmas.List.Elements.{All-take, All-drop}
use Rattle.ogg_page.specs.Written.{written_pages}
use Rattle.cut_slice.specs.Copy.{IsShort, header_pages, frame_pages}
use Rattle.cut_desk.specs.Making.{IsMaking}
use Rattle.cut_slice.specs.Plain.{stream_of}
use Rattle.cut_slice.specs.Sources.{packets_view}
use Rattle.cut_slice.proofs.CopyLemmas.{short_part, cut_written}
use Rattle.cut_desk.proofs.MakingLemmas.{making_more, makes_is, made_part}
use Rattle.cut_slice.proofs.copy.copy.Goals as goal

pub returns-in-Err-add_headers-clause-made : goal.returns-in-Err-add_headers-clause-made
returns-in-Err-add_headers-clause-made g c =
    let created : IsMaking (g.D.Desk.sees c.args.desk.now) (g.D.Desk.sees c.create.new.self) c.in-Ok.id c.args.out.now [] = record { outside = c.in-Ok.ensures.made.0; place = c.in-Ok.ensures.made.2; room = c.in-Ok.ensures.made.1; later = c.create.ensures.cause.later } in
    made_part _ _ _ c.in-Ok.id c.args.out.now [] created c.in-Err-add_headers.ensures.part

pub add_frames-requires-clause-short : goal.add_frames-requires-clause-short
add_frames-requires-clause-short g c = rw c.deref.ensures.value (short_part (λ p. p.now) c.args.source.now.frames.items c.args.slice.first (c.args.slice.past - c.args.slice.first) c.requires.short.frames)

pub returns-in-Ok-add_frames-clause-written : goal.returns-in-Ok-add_frames-clause-written
returns-in-Ok-add_frames-clause-written g c =
    let view = packets_view c.args.source.now in
    let n : ℕ = c.args.slice.past - c.args.slice.first in
    let items = c.args.source.now.frames.items in
    let created : IsMaking (g.D.Desk.sees c.args.desk.now) (g.D.Desk.sees c.create.new.self) c.in-Ok.id c.args.out.now [] = record { outside = c.in-Ok.ensures.made.0; place = c.in-Ok.ensures.made.2; room = c.in-Ok.ensures.made.1; later = c.create.ensures.cause.later } in
    let headed = making_more _ _ _ c.in-Ok.id c.args.out.now [] _ created c.in-Ok-add_headers.ensures.added in
    let framed = making_more _ _ _ c.in-Ok.id c.args.out.now _ _ headed c.in-Ok-add_frames.ensures.added in
    let frames : map (λ p. p.now) (take n (drop c.args.slice.first c.deref.result.now)) ≡ take n (drop c.args.slice.first (map (λ p. p.now) items)) =
    ap (λ xs. map (λ p. p.now) (take n (drop c.args.slice.first xs))) c.deref.ensures.value ∙ sym (take-map (λ p. p.now) n (drop c.args.slice.first items)) ∙ ap (take n) (sym (drop-map (λ p. p.now) c.args.slice.first items)) in
    let count : length (take n (drop c.args.slice.first (map (λ p. p.now) items))) ≡ n = length-take-le n (drop c.args.slice.first (map (λ p. p.now) items)) (omega (arith, length-drop c.args.slice.first (map (λ p. p.now) items), length-map items (λ p. p.now))) in
    let all = cut_written (stream_of view) (take n (drop c.args.slice.first view.frames)) (omega (arith, count)) c.requires.short.ident c.requires.short.others (All-take IsShort n (drop c.args.slice.first view.frames) (All-drop IsShort c.args.slice.first view.frames c.requires.short.frames)) (omega (arith, count)) in
    makes_is _ _ c.in-Ok.id c.args.out.now _ _ framed (ap (λ ps. written_pages (header_pages (stream_of view)) ++ written_pages (frame_pages (stream_of view) 2 0 0 ps)) frames ∙ sym all)

pub returns-clause-made : goal.returns-clause-made
returns-clause-made g c =
    let created : IsMaking (g.D.Desk.sees c.args.desk.now) (g.D.Desk.sees c.create.new.self) c.in-Ok.id c.args.out.now [] = record { outside = c.in-Ok.ensures.made.0; place = c.in-Ok.ensures.made.2; room = c.in-Ok.ensures.made.1; later = c.create.ensures.cause.later } in
    let headed = making_more _ _ _ c.in-Ok.id c.args.out.now [] _ created c.in-Ok-add_headers.ensures.added in
    made_part _ _ _ c.in-Ok.id c.args.out.now _ headed c.in-Err-add_frames.ensures.part
