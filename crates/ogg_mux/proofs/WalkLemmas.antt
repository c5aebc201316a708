-- A walk goes over written pages without a fault: what is known before a page, against the page. The law on whole streams cites these.
use Rattle.std.proofs.Common.{◌≡◌, ◌⊎◌, ℕ, ◌+◌, ◌-◌, ◌%◌, ◌^◌, ◌<◌, ◌≤◌, Bool, true, false, not, ◌&&◌, List, [], ◌∷◌, ◌++◌, length, length-append, sum, nat_lt, Ok, Some, None, Option, is_none, is_some, if◌then◌else◌, ◌==◌, refl, ap, sym, subst, ◌∙◌, arith, eq-eqb, eqb-true, le-ltb, ltb-true, true≢false, inl, inr, unwrap_or}
use Rattle.std.proofs.lemmas.Bool.{cases_lt}
use Rattle.std.proofs.lemmas.List.{nil_from_length}
use Rattle.std.proofs.lemmas.List.Sums.{sum_by-append, sum_by-cons}
use Rattle.ogg_page.specs.Packets.{segments}
use Rattle.ogg_page.proofs.PacketLemmas.{segments-more}
use Rattle.ogg_link.specs.declared.state.State.{State}
use Rattle.ogg_link.specs.declared.state.Progress.{Progress}
use Rattle.ogg_link.specs.Flags.{is_continued, is_first, is_last}
use Rattle.ogg_link.specs.Progress.{after_piece, after_pieces, is_crowded}
use Rattle.ogg_link.specs.Walk.{step, ended, is_of_track}
use Rattle.ogg_link.specs.Faultless.{stepped}
use Rattle.ogg_link.specs.Granules.{settled, against_key}
use Rattle.ogg_link.proofs.GranuleLemmas.{settled_right}
use Rattle.ogg_link.proofs.ProgressLemmas.{not_crowded, not_crowded-more, after_pieces-append, packets_counted}
use Rattle.ogg_link.proofs.StepLemmas.{step_right}
use Rattle.ogg_mux.specs.OutputPages.{Held, Segment, next_page, grown, page_with, pages_list}
use Rattle.ogg_mux.specs.Walked.{GoesOver}
use Rattle.ogg_mux.proofs.OutputLemmas.{piece_of}
use Rattle.ogg_mux.proofs.MuxLemmas.{grown-there, grown-shut, next_page-open}
use Rattle.ogg_mux.proofs.RightLemmas.{IsRight, GivesRight, IsProper, AllRight}

-- what is known behind the segments of a held page
abbrev pub known_on : State → Held → Progress
known_on state held = after_pieces state.progress (segments held.lacing held.body)

-- the base is that of the stream, where a page has told it
abbrev pub MayKnow : ℕ → Option ℕ → Type 0
MayKnow base found = (found ≡ None) ⊎ (found ≡ Some base)

-- what is known before a later page of the track, against the page
pub record IsLinked (base shift serial : ℕ) (state : State) (held : Held) : Type 0 where
  pub track : state.track ≡ Some serial
  pub open_track : state.closed ≡ false
  pub number : held.number ≡ (state.number + 1) % 2 ^ 32
  pub flags : held.flags ≡ (if state.progress.unfinished then 1 else 0)
  pub goes_on : 0 < length held.lacing → (known_on state held).unfinished ≡ held.goes_on
  pub shut : held.closed ≡ true → 0 < length held.lacing
  pub shape : sum held.lacing ≡ length held.body
  pub count : state.progress.packets ≤ 2 ^ 64 - 1
  pub roomy : is_crowded state.progress.packets held.lacing ≡ false
  pub apart : held.closed ≡ false → ((known_on state held).packets ≤ 2) ⊎ (3 ≤ state.progress.packets)
  pub base_known : MayKnow base state.base
  pub right : 3 < (known_on state held).packets → state.progress.packets < (known_on state held).packets → IsRight base shift (known_on state held) held.granule

-- a page with one more segment
pub known-grown : (state : State) (held : Held) (s : Segment) → sum held.lacing ≡ length held.body → known_on state (grown held s) ≡ after_piece (known_on state held) (piece_of s)
unfolding grown after_pieces
known-grown state held s shape = ap (after_pieces state.progress) (segments-more held.lacing held.body s.bytes shape) ∙ after_pieces-append state.progress (segments held.lacing held.body) (piece_of s ∷ [])

unfinished_piece : (known : Progress) (s : Segment) → (after_piece known (piece_of s)).unfinished ≡ not (nat_lt (length s.bytes) 255)
unfinished_piece known s = elim (nat_lt (length s.bytes) 255) as (λ b. (after_piece known (record { bytes = s.bytes; ends = b })).unfinished ≡ not b) [ true ↦ refl | false ↦ refl ]

not_true : (b : Bool) → true ≡ not b → b ≡ false
not_true true e = absurd (true≢false e)
not_true false e = refl

-- the position of a page with one more segment
right-grown : (base shift n : ℕ) (known : Progress) (s : Segment) (granule : ℕ) (given : Option ℕ) → is_none given ≡ not (nat_lt (length s.bytes) 255) → GivesRight base shift (after_piece known (piece_of s)) given
    → (3 < known.packets → n < known.packets → IsRight base shift known granule)
    → 3 < (after_piece known (piece_of s)).packets → n < (after_piece known (piece_of s)).packets → IsRight base shift (after_piece known (piece_of s)) (unwrap_or given granule)
right-grown base shift n known s granule (Some g) proper gives old frame new = gives frame
right-grown base shift n known s granule None proper gives old frame new =
    subst (λ b. 3 < (after_piece known (record { bytes = s.bytes; ends = b })).packets → n < (after_piece known (record { bytes = s.bytes; ends = b })).packets → IsRight base shift (after_piece known (record { bytes = s.bytes; ends = b })) granule)
    (sym (not_true (nat_lt (length s.bytes) 255) proper)) (λ k m. let right = old k m in record { key = right.key; last = right.last; value = right.value; near = right.near }) frame new

shape-grown : (held : Held) (s : Segment) → sum held.lacing ≡ length held.body → sum (grown held s).lacing ≡ length (grown held s).body
unfolding grown
shape-grown held s shape = omega (arith, shape, length-append held.body s.bytes, sum_by-append (λ x. x) held.lacing (length s.bytes ∷ []), sum_by-cons (λ x. x) (length s.bytes) [])

roomy-grown : (state : State) (held : Held) (s : Segment) → state.progress.packets ≤ 2 ^ 64 - 1 → ((known_on state held).packets ≤ 2) ⊎ (3 ≤ state.progress.packets) → is_crowded state.progress.packets (grown held s).lacing ≡ false
unfolding grown
roomy-grown state held s count (inl few) = not_crowded-more state.progress held.lacing held.body (length s.bytes) count few
roomy-grown state held s count (inr behind) = not_crowded state.progress.packets (held.lacing ++ length s.bytes ∷ []) behind

ends_some : (given : Option ℕ) → is_none given ≡ not true → is_some given ≡ true
ends_some None e = absurd (true≢false e)
ends_some (Some g) e = refl

-- a page stays open until more than two packets have ended only where the headers stand on pages before
apart-grown : (known : Progress) (held : Held) (s : Segment) (behind : Type 0) → IsProper known s → (known.packets ≤ 2) ⊎ behind → (grown held s).closed ≡ false → ((after_piece known (piece_of s)).packets ≤ 2) ⊎ behind
apart-grown known held s behind proper (inr later) open_page = inr later
apart-grown known held s behind proper (inl few) open_page =
    elim (nat_lt (length s.bytes) 255) as (λ b. is_none s.granule ≡ not b → ((after_piece known (record { bytes = s.bytes; ends = b })).packets ≤ 2) ⊎ behind) [
      | true ↦ λ e. elim (cases_lt known.packets 2) [
        | inl low ↦ inl (omega arith)
        | inr high ↦ absurd (true≢false (sym (grown-shut held s.bytes s.granule s.least (proper.closes (omega arith) (ends_some s.granule e))) ∙ open_page))
      ]
      | false ↦ λ e. inl few
    ] proper.goes_on

granule-grown : (base shift n : ℕ) (known : Progress) (held : Held) (s : Segment) → IsProper known s → GivesRight base shift (after_piece known (piece_of s)) s.granule
    → (3 < known.packets → n < known.packets → IsRight base shift known held.granule)
    → 3 < (after_piece known (piece_of s)).packets → n < (after_piece known (piece_of s)).packets → IsRight base shift (after_piece known (piece_of s)) (grown held s).granule
unfolding grown
granule-grown base shift n known held s proper gives old = right-grown base shift n known s held.granule s.granule proper.goes_on gives old

goes_on-grown : (known : Progress) (held : Held) (s : Segment) → IsProper known s → (after_piece known (piece_of s)).unfinished ≡ (grown held s).goes_on
unfolding grown
goes_on-grown known held s proper = unfinished_piece known s ∙ sym proper.goes_on

kept-grown : (held : Held) (s : Segment) → ((grown held s).flags ≡ held.flags) × ((grown held s).number ≡ held.number)
unfolding grown
kept-grown held s = (refl, refl)

-- what is known before a page stays against the page when it grows
pub linked-grown : (base shift serial : ℕ) (state : State) (held : Held) (s : Segment) → IsLinked base shift serial state held → held.closed ≡ false → IsProper (known_on state held) s
    → GivesRight base shift (after_piece (known_on state held) (piece_of s)) s.granule → IsLinked base shift serial state (grown held s)
linked-grown base shift serial state held s l open_page proper gives =
    let more : known_on state (grown held s) ≡ after_piece (known_on state held) (piece_of s) = known-grown state held s l.shape in
    record {
      track = l.track;
      open_track = l.open_track;
      number = (kept-grown held s).1 ∙ l.number;
      flags = (kept-grown held s).0 ∙ l.flags;
      goes_on = λ _. ap (λ (known : Progress). known.unfinished) more ∙ goes_on-grown (known_on state held) held s proper;
      shut = λ _. grown-there held s;
      shape = shape-grown held s l.shape;
      count = l.count;
      roomy = roomy-grown state held s l.count (l.apart open_page);
      apart = subst (λ known. (grown held s).closed ≡ false → (known.packets ≤ 2) ⊎ (3 ≤ state.progress.packets)) (sym more) (apart-grown (known_on state held) held s (3 ≤ state.progress.packets) proper (l.apart open_page));
      base_known = l.base_known;
      right = subst (λ known. 3 < known.packets → state.progress.packets < known.packets → IsRight base shift known (grown held s).granule) (sym more) (granule-grown base shift state.progress.packets (known_on state held) held s proper gives l.right);
    }

flags_open : (b : Bool) → is_last ((if b then 1 else 0) + 0) ≡ false
flags_open true = refl
flags_open false = refl

-- the flags beside a page's own: none, or that of the last page
abbrev pub IsEnd : ℕ → Type 0
IsEnd last = (last ≡ 0) ⊎ (last ≡ 4)

continued_flag : (b : Bool) (last : ℕ) → IsEnd last → is_continued ((if b then 1 else 0) + last) ≡ b
continued_flag true last (inl e) = rw e refl
continued_flag false last (inl e) = rw e refl
continued_flag true last (inr e) = rw e refl
continued_flag false last (inr e) = rw e refl

first_flag : (b : Bool) (last : ℕ) → IsEnd last → is_first ((if b then 1 else 0) + last) ≡ false
first_flag true last (inl e) = rw e refl
first_flag false last (inl e) = rw e refl
first_flag true last (inr e) = rw e refl
first_flag false last (inr e) = rw e refl

-- the page fits what is known
pub page_steps : (base shift serial last : ℕ) (state : State) (held : Held) → IsEnd last → IsLinked base shift serial state held → step state (page_with serial last held) ≡ Ok (stepped state (page_with serial last held))
page_steps base shift serial last state held end l = step_right state (page_with serial last held) (record {
  of_track = l.track;
  open_track = l.open_track;
  next_number = l.number;
  goes_on = ap (λ f. is_continued (f + last)) l.flags ∙ continued_flag state.progress.unfinished last end;
  later = ap (λ f. is_first (f + last)) l.flags ∙ first_flag state.progress.unfinished last end;
  roomy = l.roomy;
})

pub page_of_track : (base shift serial last : ℕ) (state : State) (held : Held) → IsLinked base shift serial state held → is_of_track state (page_with serial last held) ≡ true
page_of_track base shift serial last state held l = rw l.track (eq-eqb serial serial refl)

and_left : (a b : Bool) → a && b ≡ true → a ≡ true
and_left true b e = refl
and_left false b e = absurd (true≢false (sym e))

and_right : (a b : Bool) → a && b ≡ true → b ≡ true
and_right true b e = e
and_right false b e = absurd (true≢false (sym e))

-- a page has the position of the last frame that ends on it
settles_right : (base shift : ℕ) (state : State) → MayKnow base state.base → (state.settles ≡ true → IsRight base shift state.progress state.granule)
    → (found : Option ℕ) × (settled state shift ≡ Ok (record state { base = found })) × MayKnow base found
unfolding settled
settles_right base shift state known right =
    elim state.settles as (λ b. (b ≡ state.settles) → (found : Option ℕ) × ((if b then against_key state shift state.progress.last_key else Ok state) ≡ Ok (record state { base = found })) × MayKnow base found) [
      | true ↦ λ e.
          let is = right (sym e) in
          (Some base, ap (λ b. if b then against_key state shift state.progress.last_key else Ok state) e ∙ settled_right state base shift is.key known (sym e) is.last is.value is.near, inr refl)
      | false ↦ λ e. (state.base, refl, known)
    ] refl

pub page_settles : (base shift serial last : ℕ) (state : State) (held : Held) → IsLinked base shift serial state held
    → (found : Option ℕ) × (settled (stepped state (page_with serial last held)) shift ≡ Ok (record (stepped state (page_with serial last held)) { base = found })) × MayKnow base found
page_settles base shift serial last state held l =
    let known : Progress = known_on state held in
    settles_right base shift (stepped state (page_with serial last held)) l.base_known
    (λ e. l.right (ltb-true 3 known.packets (and_left (nat_lt 3 known.packets) (nat_lt state.progress.packets known.packets) e)) (ltb-true state.progress.packets known.packets (and_right (nat_lt 3 known.packets) (nat_lt state.progress.packets known.packets) e)))

few_or_more : (n : ℕ) → (n ≤ 2) ⊎ (3 ≤ n)
few_or_more n = elim (cases_lt n 3) [ inl low ↦ inl (omega arith) | inr high ↦ inr high ]

-- what is known behind a page, against the next one
pub linked-next : (base shift serial : ℕ) (state : State) (held : Held) (found : Option ℕ) → IsLinked base shift serial state held → held.closed ≡ true → MayKnow base found
    → IsLinked base shift serial (record (stepped state (page_with serial 0 held)) { base = found }) (next_page held)
unfolding next_page segments after_pieces is_crowded
linked-next base shift serial state held found l shut known = record {
  track = refl;
  open_track = ap (λ f. is_last (f + 0)) l.flags ∙ flags_open state.progress.unfinished;
  number = refl;
  flags = ap (λ b. if b then 1 else 0) (sym (l.goes_on (l.shut shut)));
  goes_on = λ there. absurd (omega (arith, there));
  shut = λ e. absurd (true≢false (sym e));
  shape = refl;
  count = omega (arith, packets_counted state.progress [] (segments held.lacing held.body) l.count);
  roomy = refl;
  apart = λ _. few_or_more (known_on state held).packets;
  base_known = known;
  right = λ _ more. absurd (omega (arith, more));
}

-- the end of a file behind whole packets
end_right : (serial : ℕ) (state : State) → state.track ≡ Some serial → state.progress.unfinished ≡ false → 3 ≤ state.progress.packets → ended state ≡ Ok state
unfolding ended
end_right serial state track whole some = rw (track, whole, le-ltb state.progress.packets 3 some) refl

known_next : (state : State) (held : Held) (serial : ℕ) (found : Option ℕ) → known_on (record (stepped state (page_with serial 0 held)) { base = found }) (next_page held) ≡ known_on state held
unfolding next_page segments after_pieces
known_next state held serial found = refl

nothing_on : (state : State) (held : Held) → length held.lacing ≡ 0 → known_on state held ≡ state.progress
unfolding segments after_pieces
nothing_on state held none = let empty : held.lacing ≡ [] = nil_from_length held.lacing none in rw empty refl

right-rest : (base shift : ℕ) (state : State) (held : Held) (s : Segment) (ss : List Segment) → sum held.lacing ≡ length held.body → AllRight base shift (after_piece (known_on state held) (piece_of s)) ss
    → AllRight base shift (known_on state (grown held s)) ss
right-rest base shift state held s ss shape right = subst (λ known. AllRight base shift known ss) (sym (known-grown state held s shape)) right

-- a walk goes over all pages that right segments fill
pub pages_go : (base shift serial last : ℕ) (state : State) (held : Held) (ss : List Segment) → IsEnd last → IsLinked base shift serial state held → AllRight base shift (known_on state held) ss
    → GoesOver shift state (pages_list serial last held ss)
unfolding GoesOver pages_list AllRight
pages_go base shift serial last state held [] end l right =
    elim (length held.lacing == 0) as (λ b. (b ≡ (length held.lacing == 0)) → GoesOver shift state (if b then [] else page_with serial last held ∷ [])) [
      | true ↦ λ e.
          let same : known_on state held ≡ state.progress = nothing_on state held (eqb-true (length held.lacing) 0 (sym e)) in
          end_right serial state l.track (ap (λ (known : Progress). known.unfinished) (sym same) ∙ right.0) (subst (λ known. 3 ≤ known.packets) same right.1)
      | false ↦ λ _.
          let found = page_settles base shift serial last state held l in
          (_, page_of_track base shift serial last state held l, page_steps base shift serial last state held end l, found.1, end_right serial _ refl right.0 right.1)
    ] refl
pages_go base shift serial last state held (s ∷ ss) end l right =
    elim held.closed as (λ b. (b ≡ held.closed) → GoesOver shift state (if b then page_with serial 0 held ∷ pages_list serial last (grown (next_page held) s) ss else pages_list serial last (grown held s) ss)) [
      | true ↦ λ e.
          let found = page_settles base shift serial 0 state held l in
          let next : State = record (stepped state (page_with serial 0 held)) { base = found.0 } in
          let linked = linked-next base shift serial state held found.0 l (sym e) found.2 in
          let same : known_on next (next_page held) ≡ known_on state held = known_next state held serial found.0 in
          let right_on = subst (λ known. AllRight base shift known (s ∷ ss)) (sym same) right in (
            _,
            page_of_track base shift serial 0 state held l,
            page_steps base shift serial 0 state held (inl refl) l,
            found.1,
            pages_go base shift serial last next (grown (next_page held) s) ss end
                (linked-grown base shift serial next (next_page held) s linked (next_page-open held) right_on.0 right_on.1) (right-rest base shift next (next_page held) s ss linked.shape right_on.2),
          )
      | false ↦ λ e. pages_go base shift serial last state (grown held s) ss end (linked-grown base shift serial state held s l (sym e) right.0 right.1) (right-rest base shift state held s ss l.shape right.2)
    ] refl
