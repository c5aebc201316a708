use Rattle.std.proofs.Common.{◌≡◌, ℕ, ap, subst, ◌-◌, ◌<◌, ◌≤◌, ◌+◌, length, length-drop, drop, refl, arith}
use Rattle.vid_desk.specs.Meaning.{bytes_at}
use Rattle.vid_desk.proofs.MeaningLemmas.{still}
use Rattle.y4m_io.specs.Planes.{ArePlanes}
use Rattle.y4m_io.specs.Reading.{planes_size}
use Rattle.y4m_io.specs.Pictures.{samples_of}
use Rattle.y4m_io.specs.Progress.{Progress, progress_of}
use Rattle.y4m_io.proofs.ReadingLemmas.{next_empty, next_end, next_many, frame_short, frame_found, finds_bad, planes_are}
use Rattle.y4m_io.proofs.reading.Y4m.next_frame.Goals as goal

pub returns-then-frame-eq0-clause-found : goal.returns-then-frame-eq0-clause-found
returns-then-frame-eq0-clause-found g c = λ files told.
    let y = c.args.self.now in
    let bytes = bytes_at files y.input.id in
    (next_empty y.head y.frames (drop y.at bytes) (omega (arith, length-drop y.at bytes, c.requires.of files told, c.if-self.true)) c.if-frame-eq0.true, refl)

pub returns-else-frame-eq0-clause-found : goal.returns-else-frame-eq0-clause-found
returns-else-frame-eq0-clause-found g c = λ files told.
    let y = c.args.self.now in
    let bytes = bytes_at files y.input.id in
    next_end y.head y.frames (drop y.at bytes) (omega (arith, length-drop y.at bytes, c.requires.of files told, c.if-self.true)) (omega (arith, c.if-frame-eq0.false))

pub returns-then-frame-ge-MOST_FRAMES-clause-found : goal.returns-then-frame-ge-MOST_FRAMES-clause-found
returns-then-frame-ge-MOST_FRAMES-clause-found g c = λ files told.
    let y = c.args.self.now in
    let bytes = bytes_at files y.input.id in
    (next_many y.head y.frames (drop y.at bytes) (omega (arith, length-drop y.at bytes, c.requires.of files told, c.if-self.false, y.within)) c.if-frame-ge-MOST_FRAMES.true, refl)

pub returns-in-Err-clause-found : goal.returns-in-Err-clause-found
returns-in-Err-clause-found g c = λ files told.
    let y = c.args.self.now in
    let bytes = bytes_at files y.input.id in
    let some : 0 < length (drop y.at bytes) = omega (arith, length-drop y.at bytes, c.requires.of files told, c.if-self.false, y.within) in
    finds_bad c.in-Err.fault (progress_of y) (samples_of c.args.into.now) bytes some c.if-frame-ge-MOST_FRAMES.false (c.in-Err.ensures.line files told)

pub returns-then-self-line-clause-found : goal.returns-then-self-line-clause-found
returns-then-self-line-clause-found g c = λ files told.
    let y = c.args.self.now in
    let bytes = bytes_at files y.input.id in
    let of = c.requires.into in
    let some : 0 < length (drop y.at bytes) = omega (arith, length-drop y.at bytes, c.requires.of files told, c.if-self.false, y.within) in
    let same : c.next_line.new.self.input.size - c.next_line.new.self.at ≡ y.input.size - y.at = ap (λ (p : Progress). p.size - p.at) c.next_line.ensures.same in (
      frame_short y.head y.frames c.in-Ok.line (drop y.at bytes) some c.if-frame-ge-MOST_FRAMES.false (c.in-Ok.ensures.line files told)
          (omega (arith, length-drop y.at bytes, c.requires.of files told, c.if-self-line.true, same, of.y, of.cb, of.cr, c.len.ensures, c.len-2.ensures, c.len-3.ensures)),
      refl,
    )

pub returns-clause-found : goal.returns-clause-found
returns-clause-found g c = λ files told.
    let y = c.args.self.now in
    let line = c.in-Ok.line in
    let old = samples_of c.args.into.now in
    let new = samples_of c.read_planes.new.into in
    let bytes = bytes_at files y.input.id in
    let of = c.requires.into in
    let some : 0 < length (drop y.at bytes) = omega (arith, length-drop y.at bytes, c.requires.of files told, c.if-self.false, y.within) in
    let same = c.next_line.ensures.same in
    let left : c.next_line.new.self.input.size - c.next_line.new.self.at ≡ y.input.size - y.at = ap (λ (p : Progress). p.size - p.at) same in
    let size : line + (c.len.result + c.len-2.result + c.len-3.result) ≡ line + planes_size y.head = omega (arith, of.y, of.cb, of.cr, c.len.ensures, c.len-2.ensures, c.len-3.ensures) in
    let long : line + (c.len.result + c.len-2.result + c.len-3.result) ≤ length (drop y.at bytes) = omega (arith, length-drop y.at bytes, c.requires.of files told, c.if-self-line.false, left, c.in-Ok.ensures.within) in
    let read = c.in_ok-read_planes.ensures.planes files (still (g.D.Desk.sees c.args.desk.now) (g.D.Desk.sees c.next_line.new.desk) files c.next_line.ensures.kept told) in
    let here = subst (λ (at : ℕ). ArePlanes old new (at + line) (bytes_at files c.next_line.new.self.input.id)) (ap (λ (p : Progress). p.at) same) read in
    let planes = subst (λ (id : ℕ). ArePlanes old new (y.at + line) (bytes_at files id)) (ap (λ (p : Progress). p.input) same) here in
    frame_found y.head y.frames line _ new (drop y.at bytes) some c.if-frame-ge-MOST_FRAMES.false (c.in-Ok.ensures.line files told) size long (planes_are y.head y.at line old new bytes of c.read_planes.ensures.sized planes)
