use Rattle.std.proofs.Common.{◌≡◌, ◌∙◌, ◌≤◌, ◌<◌, ◌++◌, ℕ, List, length, map, take, sym, ap, arith}
use Rattle.std.proofs.lemmas.List.{length-map, take-map, length-take-le}
use Rattle.std.proofs.lemmas.List.Elements.{All-take}
use Rattle.thr_modes.specs.Vectors.{Offset, offset_of}
use Rattle.thr_modes.specs.Motion.{block_vectors, chroma_count}
use Rattle.thr_modes.specs.Views.{motion_of}
use Rattle.thr_modes.proofs.AreaLemmas.{put_three}
use Rattle.thr_modes.proofs.LumaLemmas.{All-left, All-right}
use Rattle.thr_modes.proofs.placing.put_motion.Goals as goal

pub put_at-requires-clause-places : goal.put_at-requires-clause-places
put_at-requires-clause-places c =
    let numbers = c.args.numbers.now in
    let P : ℕ → Type 0 = λ place. place < length c.args.vectors.now in
    All-left P numbers.luma numbers.cb (All-left P (numbers.luma ++ numbers.cb) numbers.cr c.requires.below)

pub put_at-requires-2-clause-places : goal.put_at-requires-2-clause-places
put_at-requires-2-clause-places c =
    let numbers = c.args.numbers.now in
    let P : ℕ → Type 0 = λ place. place < length c.args.vectors.now in
    let there = All-take P numbers.chroma_count numbers.cb (All-right P numbers.luma numbers.cb (All-left P (numbers.luma ++ numbers.cb) numbers.cr c.requires.below)) in
    rw (c.from-count.ensures, c.put_at.auto.vectors) there

pub put_at-requires-3-clause-places : goal.put_at-requires-3-clause-places
put_at-requires-3-clause-places c =
    let numbers = c.args.numbers.now in
    let P : ℕ → Type 0 = λ place. place < length c.args.vectors.now in
    let there = All-take P numbers.chroma_count numbers.cr (All-right P (numbers.luma ++ numbers.cb) numbers.cr c.requires.below) in
    let long : length c.put_at-2.new.vectors ≡ length c.args.vectors.now = c.put_at-2.auto.vectors ∙ c.put_at.auto.vectors in
    rw (c.from-count.ensures, long) there

pub returns : goal.returns
unfolding block_vectors motion_of
returns c pf count =
    let numbers = c.args.numbers.now in
    let luma : List Offset = map offset_of c.args.motion.now.luma in
    let chroma : List Offset = take (chroma_count pf) (map offset_of c.args.motion.now.chroma) in
    let counted : map offset_of (take numbers.chroma_count c.args.motion.now.chroma) ≡ chroma = sym (take-map offset_of numbers.chroma_count c.args.motion.now.chroma) ∙ ap (λ n. take n (map offset_of c.args.motion.now.chroma)) count in
    let four : length numbers.luma ≡ length luma = omega (arith, length-map c.args.motion.now.luma offset_of) in
    let few : numbers.chroma_count ≤ 4 = c.requires.count in
    let long : length chroma ≡ chroma_count pf = length-take-le (chroma_count pf) (map offset_of c.args.motion.now.chroma) (omega (arith, length-map c.args.motion.now.chroma offset_of, few, count)) in
    let same : length (take numbers.chroma_count numbers.cb) ≡ length chroma = length-take-le numbers.chroma_count numbers.cb (omega (arith, few)) ∙ count ∙ sym long in
    put_three (map offset_of c.args.vectors.now) (map offset_of c.put_at.new.vectors) (map offset_of c.put_at-2.new.vectors) (map offset_of c.put_at-3.new.vectors)
    numbers.luma (take numbers.chroma_count numbers.cb) (take numbers.chroma_count numbers.cr) luma chroma four same
    c.put_at.ensures (rw (c.from-count.ensures, counted) at c.put_at-2.ensures) (rw (c.from-count.ensures, counted) at c.put_at-3.ensures)
