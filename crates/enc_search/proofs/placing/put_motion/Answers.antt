use Rattle.std.proofs.Common.{◌≡◌, ◌∙◌, ◌≤◌, ◌<◌, ◌++◌, ℕ, length, map, replicate, take, sym, arith}
use Rattle.std.proofs.lemmas.List.{length-replicate, length-take-le}
use Rattle.std.proofs.lemmas.List.Elements.{All-take}
use Rattle.thr_modes.specs.Vectors.{offset_of}
use Rattle.thr_modes.specs.Motion.{block_vectors, chroma_count, same_motion}
use Rattle.thr_modes.proofs.AreaLemmas.{put_three}
use Rattle.thr_modes.proofs.LumaLemmas.{All-left, All-right}
use Rattle.enc_search.proofs.placing.put_motion.Goals as goal

pub put_at-requires-2 : goal.put_at-requires-2
put_at-requires-2 c =
    let numbers = c.args.numbers.now in
    let P : ℕ → Type 0 = λ place. place < length c.args.vectors.now in
    let there = All-take P numbers.chroma_count numbers.cb (All-right P numbers.luma numbers.cb (All-left P (numbers.luma ++ numbers.cb) numbers.cr c.requires.below)) in
    rw (c.from-count.ensures, c.put_at.auto.vectors) there

pub put_at-requires-3 : goal.put_at-requires-3
put_at-requires-3 c =
    let numbers = c.args.numbers.now in
    let P : ℕ → Type 0 = λ place. place < length c.args.vectors.now in
    let there = All-take P numbers.chroma_count numbers.cr (All-right P (numbers.luma ++ numbers.cb) numbers.cr c.requires.below) in
    let long : length c.put_at-2.new.vectors ≡ length c.args.vectors.now = c.put_at-2.auto.vectors ∙ c.put_at.auto.vectors in
    rw (c.from-count.ensures, long) there

pub returns : goal.returns
unfolding block_vectors same_motion
returns c pf count =
    let numbers = c.args.numbers.now in
    let v = offset_of c.args.vector in
    let n = chroma_count pf in
    let few : numbers.chroma_count ≤ 4 = c.requires.count in
    let cb : length (take numbers.chroma_count numbers.cb) ≡ n = length-take-le numbers.chroma_count numbers.cb (omega (arith, few)) ∙ count in
    let cr : length (take numbers.chroma_count numbers.cr) ≡ n = length-take-le numbers.chroma_count numbers.cr (omega (arith, few)) ∙ count in
    let luma : length numbers.luma ≡ 4 = omega arith in
    put_three (map offset_of c.args.vectors.now) (map offset_of c.put_at.new.vectors) (map offset_of c.put_at-2.new.vectors) (map offset_of c.put_at-3.new.vectors)
    numbers.luma (take numbers.chroma_count numbers.cb) (take numbers.chroma_count numbers.cr) (replicate 4 v) (replicate n v) luma (cb ∙ sym (length-replicate n v))
    (rw luma at c.put_at.ensures) (rw (c.from-count.ensures, cb) at c.put_at-2.ensures) (rw (c.from-count.ensures, cr) at c.put_at-3.ensures)
