use Rattle.std.proofs.Common.{rules, ◌≡◌, ◌∙◌, ◌<◌, [], length, get_or, map, true, false, ap, sym, subst, refl, arith}
use Rattle.std.proofs.lemmas.List.{get_or-map, length-map}
use Rattle.vid_desk.specs.Meaning.{bytes_at}
use Rattle.ogg_link.specs.Track.{is_key}
use Rattle.src_index.specs.Index.{Frame, Index}
use Rattle.src_index.specs.Track.{frames_of}
use Rattle.src_index.specs.Gather.{StandsAt}
use Rattle.src_index.specs.Pages.{marks_of}
use Rattle.src_index.specs.Holding.{frame_of}
use Rattle.src_index.proofs.FillLemmas.{stands_of, gathered, carries}
use Rattle.src_index.proofs.source.Source.fill.Goals as goal

pub returns-in-Err-clause-never : goal.returns-in-Err-clause-never
returns-in-Err-clause-never g c = λ files told e.
    let raw = c.index-frame.result.now in
    let frames = c.self.inside.frames.items in
    let view : map frame_of frames ≡ c.args.self.now.frames = ap (λ (i : Index). i.frames) c.self.view_is in
    let pages : marks_of c.self.inside.pages ≡ c.args.self.now.pages = ap (λ (i : Index). i.pages) c.self.view_is in
    let low : c.args.n < length frames = omega (arith, c.requires.frame, length-map frames frame_of, ap length view) in
    let is : get_or c.args.self.now.frames c.args.n (frame_of raw) ≡ frame_of raw = ap (λ fs. get_or fs c.args.n (frame_of raw)) (sym view) ∙ get_or-map frame_of frames c.args.n raw (frame_of raw) low ∙ ap frame_of (sym c.index-frame.ensures) in
    let standing = stands_of (bytes_at files c.args.self.now.input) c.args.self.now c.args.n (marks_of c.self.inside.pages) (frame_of raw).place (frame_of raw) (c.requires.made.1 files told) c.requires.frame is pages refl in
    let id : c.args.self.now.input ≡ c.self.inside.input = sym (ap (λ (i : Index). i.input) c.self.view_is) in
    let packet = get_or (frames_of (c.requires.made.1 files told).packets) c.args.n [] in
    let stood : StandsAt (bytes_at files c.self.inside.input) (marks_of c.self.inside.pages) (frame_of raw).place packet =
    subst (λ k. StandsAt (bytes_at files k) (marks_of c.self.inside.pages) (frame_of raw).place packet) id standing.stands in
    c.in-Err.ensures.never files told packet stood standing.short e

pub returns-then-not-has_key_mark-clause-never : goal.returns-then-not-has_key_mark-clause-never
returns-then-not-has_key_mark-clause-never g c = λ files told e.
    let raw = c.index-frame.result.now in
    let bytes = bytes_at files c.args.self.now.input in
    let id : c.self.inside.input ≡ c.args.self.now.input = ap (λ (i : Index). i.input) c.self.view_is in
    let stood : StandsAt bytes (marks_of c.self.inside.pages) (frame_of c.index-frame.result.now).place c.gather.new.into.items =
    subst (λ k. StandsAt (bytes_at files k) (marks_of c.self.inside.pages) (frame_of c.index-frame.result.now).place c.gather.new.into.items) id (c.in-Ok.ensures.packet files told) in
    let frames = c.self.inside.frames.items in
    let view : map frame_of frames ≡ c.args.self.now.frames = ap (λ (i : Index). i.frames) c.self.view_is in
    let pages : marks_of c.self.inside.pages ≡ c.args.self.now.pages = ap (λ (i : Index). i.pages) c.self.view_is in
    let low : c.args.n < length frames = omega (arith, c.requires.frame, length-map frames frame_of, ap length view) in
    let is : get_or c.args.self.now.frames c.args.n (frame_of raw) ≡ frame_of raw = ap (λ fs. get_or fs c.args.n (frame_of raw)) (sym view) ∙ get_or-map frame_of frames c.args.n raw (frame_of raw) low ∙ ap frame_of (sym c.index-frame.ensures) in
    let indexed = c.requires.made.1 files told in
    let packet = get_or (frames_of indexed.packets) c.args.n [] in
    let standing = stands_of bytes c.args.self.now c.args.n (marks_of c.self.inside.pages) (frame_of raw).place (frame_of raw) indexed c.requires.frame is pages refl in
    let got : c.gather.new.into.items ≡ packet = gathered bytes (marks_of c.self.inside.pages) (frame_of raw).place raw.key packet c.gather.new.into.items standing stood in
    let no : c.has_key_mark.result ≡ false = search rules in
    c.has_key_mark.ensures.no no (ap is_key (c.deref.ensures.value ∙ got) ∙ sym standing.key_is)

pub returns-clause-value : goal.returns-clause-value
returns-clause-value g c = λ files told packets judged.
    let raw = c.index-frame.result.now in
    let bytes = bytes_at files c.args.self.now.input in
    let id : c.self.inside.input ≡ c.args.self.now.input = ap (λ (i : Index). i.input) c.self.view_is in
    let stood : StandsAt bytes (marks_of c.self.inside.pages) (frame_of c.index-frame.result.now).place c.gather.new.into.items =
    subst (λ k. StandsAt (bytes_at files k) (marks_of c.self.inside.pages) (frame_of c.index-frame.result.now).place c.gather.new.into.items) id (c.in-Ok.ensures.packet files told) in
    let frames = c.self.inside.frames.items in
    let view : map frame_of frames ≡ c.args.self.now.frames = ap (λ (i : Index). i.frames) c.self.view_is in
    let pages : marks_of c.self.inside.pages ≡ c.args.self.now.pages = ap (λ (i : Index). i.pages) c.self.view_is in
    let low : c.args.n < length frames = omega (arith, c.requires.frame, length-map frames frame_of, ap length view) in
    let is : get_or c.args.self.now.frames c.args.n (frame_of raw) ≡ frame_of raw = ap (λ fs. get_or fs c.args.n (frame_of raw)) (sym view) ∙ get_or-map frame_of frames c.args.n raw (frame_of raw) low ∙ ap frame_of (sym c.index-frame.ensures) in
    let indexed = c.requires.made.1 files told in
    let packet = get_or (frames_of indexed.packets) c.args.n [] in
    let standing = stands_of bytes c.args.self.now c.args.n (marks_of c.self.inside.pages) (frame_of raw).place (frame_of raw) indexed c.requires.frame is pages refl in
    gathered bytes (marks_of c.self.inside.pages) (frame_of raw).place raw.key packet c.gather.new.into.items standing stood
    ∙ carries bytes c.args.self.now packets c.args.n indexed judged

pub returns-clause-key : goal.returns-clause-key
returns-clause-key g c =
    let raw = c.index-frame.result.now in
    let frames = c.self.inside.frames.items in
    let view : map frame_of frames ≡ c.args.self.now.frames = ap (λ (i : Index). i.frames) c.self.view_is in
    let pages : marks_of c.self.inside.pages ≡ c.args.self.now.pages = ap (λ (i : Index). i.pages) c.self.view_is in
    let low : c.args.n < length frames = omega (arith, c.requires.frame, length-map frames frame_of, ap length view) in
    let is : get_or c.args.self.now.frames c.args.n (frame_of raw) ≡ frame_of raw = ap (λ fs. get_or fs c.args.n (frame_of raw)) (sym view) ∙ get_or-map frame_of frames c.args.n raw (frame_of raw) low ∙ ap frame_of (sym c.index-frame.ensures) in
    let yes : c.has_key_mark.result ≡ true = search rules in
    ap is_key (sym c.deref.ensures.value) ∙ c.has_key_mark.ensures.yes yes ∙ ap (λ (f : Frame). f.key) (sym is)
    ∙ sym (get_or-map (λ (f : Frame). f.key) c.args.self.now.frames c.args.n (frame_of raw) false c.requires.frame)
