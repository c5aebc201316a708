-- What comes next in a stream, case by case, and what follows there. The calls of `Y4m` cite these.
use Rattle.std.proofs.Common.{◌≡◌, ◌∙◌, ℕ, ◌+◌, ◌<◌, ◌≤◌, true, false, List, [], ◌∷◌, length, take, drop, subst, Some, None, Ok, Err, refl, sym, ap, arith}
use Rattle.std.specs.Prelude.{Option, nat_eq, nat_le, Result}
use Rattle.std.proofs.lemmas.Bool.{lt-leb}
use Rattle.std.proofs.lemmas.List.{drop-drop}
use Rattle.y4m_io.specs.declared.head.Head.{Head}
use Rattle.y4m_io.specs.declared.fault.Y4mWhy.{Y4mWhy}
use Rattle.y4m_io.specs.declared.fault.Y4mWhy.TheVariants.{Empty, Short, TooMany}
use Rattle.y4m_io.specs.declared.fault.Y4mFault.{Y4mFault}
use Rattle.y4m_io.specs.declared.fault.Y4mFault.TheVariants.{Bad, ReadFault, NoMem}
use Rattle.y4m_io.specs.Pictures.{Samples, IsPictureOf}
use Rattle.y4m_io.specs.Planes.{ArePlanes, IsLike}
use Rattle.y4m_io.specs.Steps.{◌>>=◌}
use Rattle.y4m_io.specs.Reading.{Departure, FrameRead, GoesOn, chroma_size, luma_size, frame_in, line_in, longest_line, most_frames, next_in, picture_in, planes_size, IsY4m, HasBadHead}
use Rattle.y4m_io.specs.HeadLine.{HeadRead}
use Rattle.y4m_io.specs.Progress.{Progress, Finds, FindsLine, Follow, IsStart}
use Rattle.y4m_io.proofs.PictureLemmas.{same_samples}

-- at the end of the input
pub next_empty : (h : Head) (n : ℕ) (bytes : List ℕ) → length bytes ≡ 0 → n ≡ 0 → next_in h n bytes ≡ Err Empty
unfolding next_in
next_empty h n [] end first = rw first refl
next_empty h n (c ∷ bytes) end first = absurd (omega (arith, end))

pub next_end : (h : Head) (n : ℕ) (bytes : List ℕ) → length bytes ≡ 0 → 0 < n → next_in h n bytes ≡ Ok None
unfolding next_in
next_end h n [] end some = let other : nat_eq n 0 ≡ false = grind arith in rw other refl
next_end h n (c ∷ bytes) end some = absurd (omega (arith, end))

-- behind as many frames as may be
pub next_many : (h : Head) (n : ℕ) (bytes : List ℕ) → 0 < length bytes → most_frames ≤ n → next_in h n bytes ≡ Err TooMany
unfolding next_in
next_many h n [] some many = absurd (omega (arith, some))
next_many h n (c ∷ bytes) some many = let over : nat_le most_frames n ≡ true = grind arith in rw over refl

-- elsewhere a frame
pub next_frame : (h : Head) (n : ℕ) (bytes : List ℕ) → 0 < length bytes → n < most_frames → next_in h n bytes ≡ (frame_in h bytes >>= λ frame. Ok (Some frame))
unfolding next_in
next_frame h n [] some few = absurd (omega (arith, some))
next_frame h n (c ∷ bytes) some few = let under : nat_le most_frames n ≡ false = grind arith in rw under refl

-- its line departs
pub frame_bad : (h : Head) (n : ℕ) (bytes : List ℕ) (why : Y4mWhy) → 0 < length bytes → n < most_frames → line_in (take longest_line bytes) ≡ Err why → next_in h n bytes ≡ Err why
unfolding frame_in
frame_bad h n bytes why some few bad = next_frame h n bytes some few ∙ rw bad refl

-- it is cut off, or whole
pub frame_short : (h : Head) (n line : ℕ) (bytes : List ℕ) → 0 < length bytes → n < most_frames → line_in (take longest_line bytes) ≡ Ok line → length bytes < line + planes_size h → next_in h n bytes ≡ Err Short
unfolding frame_in
frame_short h n line bytes some few read short =
    let under : nat_le (line + planes_size h) (length bytes) ≡ false = lt-leb (line + planes_size h) (length bytes) short in
    next_frame h n bytes some few ∙ rw (read, under) refl

pub frame_whole : (h : Head) (n line : ℕ) (bytes : List ℕ) → 0 < length bytes → n < most_frames → line_in (take longest_line bytes) ≡ Ok line → line + planes_size h ≤ length bytes
    → next_in h n bytes ≡ Ok (Some (record { picture = picture_in h (drop line bytes); size = line + planes_size h }))
unfolding frame_in
frame_whole h n line bytes some few read long =
    let whole : nat_le (line + planes_size h) (length bytes) ≡ true = grind arith in
    next_frame h n bytes some few ∙ rw (read, whole) refl

-- a frame whose picture and size are known
pub frame_found : (h : Head) (n line size : ℕ) (picture : Samples) (bytes : List ℕ) → 0 < length bytes → n < most_frames → line_in (take longest_line bytes) ≡ Ok line → size ≡ line + planes_size h → size ≤ length bytes
    → picture ≡ picture_in h (drop line bytes) → next_in h n bytes ≡ Ok (Some (record { picture = picture; size = size }))
frame_found h n line size picture bytes some few read is long same = rw (same, is) (frame_whole h n line bytes some few read (omega (arith, is, long)))

-- planes that were read are the picture there
pub planes_are : (h : Head) (at line : ℕ) (old new : Samples) (bytes : List ℕ) → IsPictureOf h.w h.h h.pf old → IsLike old new → ArePlanes old new (at + line) bytes → new ≡ picture_in h (drop line (drop at bytes))
unfolding picture_in
planes_are h at line old new bytes of like are =
    let here : drop (at + line) bytes ≡ drop line (drop at bytes) = sym (drop-drop line at bytes) in
    let there : (k n : ℕ) → n ≡ at + line + k → drop n bytes ≡ drop k (drop line (drop at bytes)) = λ k n e. ap (λ i. drop i bytes) e ∙ sym (drop-drop k (at + line) bytes) ∙ ap (drop k) here in
    same_samples new (picture_in h (drop line (drop at bytes))) (like.w ∙ of.width) (like.h ∙ of.height) (like.pf ∙ of.format)
    (are.y ∙ ap (λ n. take n (drop (at + line) bytes)) of.y ∙ ap (take (luma_size h)) here)
    (are.cb ∙ ap (λ n. take n (drop (at + line + length old.y) bytes)) of.cb ∙ ap (take (chroma_size h)) (there (luma_size h) (at + line + length old.y) (ap (λ n. at + line + n) of.y)))
    (are.cr ∙ ap (λ n. take n (drop (at + line + length old.y + length old.cb) bytes)) of.cr
    ∙ ap (take (chroma_size h)) (there (luma_size h + chroma_size h) (at + line + length old.y + length old.cb) (omega (arith, of.y, of.cb))))

-- a departure in a line is the frame's
pub finds_bad : (fault : Y4mFault) (p : Progress) (picture : Samples) (bytes : List ℕ) → 0 < length (drop p.at bytes) → p.frames < most_frames → FindsLine (Err fault) p bytes → Finds (Err fault) p picture bytes
finds_bad (Bad frame why) p picture bytes some few bad = (frame_bad p.head p.frames (drop p.at bytes) why some few bad.0, bad.1)
finds_bad ReadFault p picture bytes some few bad = tt
finds_bad NoMem p picture bytes some few bad = tt

-- what follows a place where this stands
pub follow_end : (p : Progress) (bytes : List ℕ) → p.bad ≡ None → next_in p.head p.frames (drop p.at bytes) ≡ Ok None → Follow p bytes [] None
unfolding GoesOn
follow_end p bytes good next = rw good next

pub follow_bad : (p : Progress) (frame : ℕ) (why : Y4mWhy) (bytes : List ℕ) → p.bad ≡ None → next_in p.head p.frames (drop p.at bytes) ≡ Err why → frame ≡ p.frames → Follow p bytes [] (Some (record { frame = frame; why = why }))
unfolding GoesOn
follow_bad p frame why bytes good next here = rw good (next, here)

pub follow_more : (p new : Progress) (size : ℕ) (picture : Samples) (bytes : List ℕ) → p.bad ≡ None → next_in p.head p.frames (drop p.at bytes) ≡ Ok (Some (record { picture = picture; size = size }))
    → new ≡ record p { at = p.at + size; frames = p.frames + 1 } → (pictures : List Samples) (bad : Option Departure) → Follow new bytes pictures bad → Follow p bytes (picture ∷ pictures) bad
unfolding GoesOn
follow_more p new size picture bytes good next is pictures bad follow =
    let there : Follow (record p { at = p.at + size; frames = p.frames + 1 }) bytes pictures bad = subst (λ (q : Progress). Follow q bytes pictures bad) is follow in
    let goes_on = rw good at there in
    rw good (size, next, goes_on)

-- what follows the head of a stream is the stream
pub started_is : (bytes : List ℕ) (p : Progress) (pictures : List Samples) (bad : Option Departure) → IsStart bytes p → Follow p bytes pictures bad → IsY4m bytes p.head pictures bad
unfolding IsY4m
started_is bytes p pictures bad start follow =
    let goes_on = rw start.bad at follow in
    (p.at, start.head, subst (λ (n : ℕ). GoesOn p.head n p.at bytes pictures bad) start.frames goes_on)

-- the parts of equal values
same_departure : (m n : ℕ) (v w : Y4mWhy) → m ≡ n → v ≡ w → (let d : Departure = record { frame = m; why = v } in d) ≡ (let e : Departure = record { frame = n; why = w } in e)
same_departure m n v w e f = rw (e, f) refl

same_frame : (p q : Samples) (s t : ℕ) → (let r : Result (Option FrameRead) Y4mWhy = Ok (Some (record { picture = p; size = s })) in r) ≡ Ok (Some (record { picture = q; size = t })) → (p ≡ q) × (s ≡ t)
same_frame p q s t e =
    let r : FrameRead = record { picture = p; size = s } in
    let u : FrameRead = record { picture = q; size = t } in
    let same : r ≡ u = cc in
    (ap (λ (f : FrameRead). f.picture) same, ap (λ (f : FrameRead). f.size) same)

same_read : (h k : Head) (s t : ℕ) → (let r : Result HeadRead Y4mWhy = Ok (record { head = h; size = s }) in r) ≡ Ok (record { head = k; size = t }) → (h ≡ k) × (s ≡ t)
same_read h k s t e =
    let r : HeadRead = record { head = h; size = s } in
    let u : HeadRead = record { head = k; size = t } in
    let same : r ≡ u = cc in
    (ap (λ (f : HeadRead). f.head) same, ap (λ (f : HeadRead). f.size) same)

same_list : (p q : Samples) (ps qs : List Samples) → p ≡ q → ps ≡ qs → p ∷ ps ≡ q ∷ qs
same_list p q ps qs e f = rw (e, f) refl

-- from a place on stands one list of pictures, and one departure
goes_on_one : (h : Head) (n at : ℕ) (bytes : List ℕ) (ps qs : List Samples) (bad worse : Option Departure) → GoesOn h n at bytes ps bad → GoesOn h n at bytes qs worse → (ps ≡ qs) × (bad ≡ worse)
unfolding GoesOn
goes_on_one h n at bytes [] [] None None a b = (refl, refl)
goes_on_one h n at bytes [] [] None (Some e) a b = let bad = b.0 in cc
goes_on_one h n at bytes [] [] (Some d) None a b = let bad = a.0 in cc
goes_on_one h n at bytes [] [] (Some d) (Some e) a b =
    let fault : Err d.why ≡ Err e.why = sym a.0 ∙ b.0 in
    let why : d.why ≡ e.why = cc in
    (refl, ap Some (same_departure d.frame e.frame d.why e.why (a.1 ∙ sym b.1) why))
goes_on_one h n at bytes [] (q ∷ qs) None worse a b = let next = b.1 in cc
goes_on_one h n at bytes [] (q ∷ qs) (Some d) worse a b = let bad = a.0 in let next = b.1 in cc
goes_on_one h n at bytes (p ∷ ps) [] bad None a b = let next = a.1 in cc
goes_on_one h n at bytes (p ∷ ps) [] bad (Some e) a b = let next = a.1 in let end = b.0 in cc
goes_on_one h n at bytes (p ∷ ps) (q ∷ qs) bad worse a b =
    let same = same_frame p q a.0 b.0 (sym a.1 ∙ b.1) in
    let later = subst (λ (size : ℕ). GoesOn h (n + 1) (at + size) bytes qs worse) (sym same.1) b.2 in
    let rest = goes_on_one h (n + 1) (at + a.0) bytes ps qs bad worse a.2 later in
    (same_list p q ps qs same.0 rest.0, rest.1)

-- a text is one stream
pub one_stream : (bytes : List ℕ) (h k : Head) (ps qs : List Samples) (bad worse : Option Departure) → IsY4m bytes h ps bad → IsY4m bytes k qs worse → (h ≡ k) × (ps ≡ qs) × (bad ≡ worse)
unfolding IsY4m
one_stream bytes h k ps qs bad worse a b =
    let same = same_read h k a.0 b.0 (sym a.1 ∙ b.1) in
    let there = subst (λ (head : Head). GoesOn head 0 b.0 bytes qs worse) (sym same.0) b.2 in
    let here = subst (λ (size : ℕ). GoesOn h 0 size bytes qs worse) (sym same.1) there in
    let rest = goes_on_one h 0 a.0 bytes ps qs bad worse a.2 here in
    (same.0, rest.0, rest.1)

-- or departs in its head
pub no_stream : (bytes : List ℕ) (why : Y4mWhy) (h : Head) (ps : List Samples) (bad : Option Departure) → HasBadHead bytes why → IsY4m bytes h ps bad → ⊥
unfolding IsY4m
no_stream bytes why h ps bad head stream = let read = stream.1 in cc
