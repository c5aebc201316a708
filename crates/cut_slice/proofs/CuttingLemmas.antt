-- Inputs without bytes, and inputs by their names. The command cites these.
use Rattle.std.proofs.Common.{◌≡◌, ℕ, ◌<◌, ◌≤◌, zero, suc, List, [], ◌∷◌, length, map, get_or, Bool, false, inl, inr, ◌⊎◌, Some, None, refl, ap, sym, ◌∙◌, arith}
use Rattle.std.specs.Option.{option_map_or}
use Rattle.std.specs.Prelude.{slice_get}
use Rattle.vid_desk.specs.Meaning.{File, Meaning}
use Rattle.ogg_page.specs.Page.{Page, ArePages}
use Rattle.ogg_page.proofs.PageLemmas.{page_is}
use Rattle.ogg_page.proofs.PagesLemmas.{ArePages-unique}
use Rattle.cut_slice.specs.SliceList.{Slice, slice_of, behind}
use Rattle.cut_slice.specs.Plain.{Packets, IsPlain, NotPlain, plain_of}
use Rattle.ogg_link.specs.Track.{is_key}
use Rattle.cut_slice.specs.Words.{Cut, clashes}
use Rattle.cut_desk.specs.Inputs.{contents, IsMissing}
use Rattle.cut_desk.specs.Outputs.{LeavesOutputs, Looks}
use Rattle.cut_desk.proofs.InputLemmas.{not_absent}
use Rattle.cut_slice.specs.Cause.{in_point, CanBeCut, Caused, CreatesWhenGiven, GivesBoth, IsGiven, IsReady, NotCovered, RefusesBoth, RefusesSource}
use Rattle.cut_report.specs.declared.status.Status.{Status}
use Rattle.cut_report.specs.declared.status.Status.TheVariants.{Done, Usage, NoFile, BadSource, BadList, Range, ReadFault, WriteFault, NoMem, BadY4m, TooLong, SameName, Changed, InPointNotKey, NotYet}

no_bytes : (bytes : List ℕ) → length bytes ≡ 0 → bytes ≡ []
no_bytes [] h = refl
no_bytes (b ∷ bytes) h = absurd (omega arith)

no_pages_of : (pages : List Page) (packets : Packets) → ArePages [] pages → plain_of pages ≡ Some packets → ⊥
unfolding ArePages plain_of
no_pages_of [] packets fill form = cc
no_pages_of (page ∷ pages) packets fill form = let some = (page_is [] page fill.0).0 in omega (arith, some)

-- a file without bytes is no plain source
pub empty_not_plain : (bytes : List ℕ) → length bytes ≡ 0 → NotPlain bytes
empty_not_plain bytes h packets plain = let fill = rw (no_bytes bytes h) at plain.fill in no_pages_of plain.pages packets fill plain.form

-- nor is a list without bytes one of a slice
pub empty_no_slice : (bytes : List ℕ) → length bytes ≡ 0 → slice_of bytes ≡ None
unfolding slice_of behind
empty_no_slice bytes h = rw (no_bytes bytes h) refl

-- nor is one that is too long
pub long_not_plain : (bytes : List ℕ) → 268435456 < length bytes → NotPlain bytes
long_not_plain bytes h packets plain = omega (arith, plain.size)

-- the packet at the in-point is the one that was looked at
pub in_point_is : {A : Type 0} (view : A → List ℕ) (frames : List A) (slice : Slice) (packets : Packets) (d : A) → packets.frames ≡ map view frames → slice.first < length frames → in_point slice packets ≡ view (get_or frames slice.first d)
in_point_is view frames slice packets d e h = ap (λ ps. option_map_or (λ p. p) (slice_get ps slice.first) []) e ∙ go frames slice.first h
  where
    go : (xs : List _) (k : ℕ) → k < length xs → option_map_or (λ p. p) (slice_get (map view xs) k) [] ≡ view (get_or xs k d)
    go [] k h = absurd (omega arith)
    go (x ∷ xs) zero h = refl
    go (x ∷ xs) (suc k) h = go xs k (omega arith)

-- so is its being a key frame
pub key_is : {A : Type 0} (view : A → List ℕ) (frames : List A) (slice : Slice) (packets : Packets) (frame : A) (key : Bool) → packets.frames ≡ map view frames → slice.first < length frames
    → frame ≡ get_or frames slice.first frame → is_key (view frame) ≡ key → is_key (in_point slice packets) ≡ key
key_is view frames slice packets frame key e h there is = ap is_key (in_point_is view frames slice packets frame e h ∙ ap view (sym there)) ∙ is

-- what is given and what is cut are ready
pub ready_of : (cut : Cut) (files : List File) (slice : Slice) (packets : Packets) (bytes : List ℕ) → clashes cut ≡ false → GivesBoth files cut.list cut.source slice bytes → IsPlain bytes packets → slice.past ≤ length packets.frames → IsReady cut files slice packets
ready_of cut files slice packets bytes apart both plain range = record {
  list = both.text;
  source = bytes;
  given = record { apart = apart; list_is = both.list_is; source_is = both.source_is };
  range = record { list_is = both.slice_is; plain = plain; range = range };
}

-- outputs that were left since the inputs were read are left, and a source that can be cut is all that was wanted
pub created_since : (old mid new : Meaning) (cut : Cut) (files : List File) (slice : Slice) (bytes : List ℕ) → clashes cut ≡ false → GivesBoth files cut.list cut.source slice bytes → Looks old mid
    → LeavesOutputs mid new ⊎ CanBeCut slice bytes → CreatesWhenGiven old new cut files
created_since old mid new cut files slice bytes apart both looks created = elim created [
  | inl left ↦
      let outputs : mid.outputs ≡ old.outputs = ap {A = Meaning} (λ m. m.outputs) looks in
      let named : mid.named ≡ old.named = ap {A = Meaning} (λ m. m.named) looks in
      inl (left.0 ∙ outputs, left.1 ∙ named)
  | inr can ↦ inr (slice, can.0, ready_of cut files slice can.0 bytes apart both can.1 can.2, can.3)
]

-- a refusal of the source is one of the cut
pub caused_by_source : (cut : Cut) (files : List File) (slice : Slice) (bytes : List ℕ) (status : Status) → clashes cut ≡ false → GivesBoth files cut.list cut.source slice bytes → RefusesSource slice bytes status → Caused cut files status
caused_by_source cut files slice bytes Done apart both refused = absurd refused
caused_by_source cut files slice bytes Usage apart both refused = absurd refused
caused_by_source cut files slice bytes Changed apart both refused = absurd refused
caused_by_source cut files slice bytes (BadY4m frame why) apart both refused = absurd refused
caused_by_source cut files slice bytes SameName apart both refused = absurd refused
caused_by_source cut files slice bytes (BadList line why) apart both refused = absurd refused
caused_by_source cut files slice bytes (Range line) apart both refused = absurd refused
caused_by_source cut files slice bytes (NoFile input) apart both refused = absurd refused
caused_by_source cut files slice bytes (BadSource source what) apart both refused = absurd refused
caused_by_source cut files slice bytes (TooLong input size) apart both refused = absurd refused
caused_by_source cut files slice bytes ReadFault apart both refused = absurd refused
caused_by_source cut files slice bytes WriteFault apart both refused = tt
caused_by_source cut files slice bytes NoMem apart both refused = tt
caused_by_source cut files slice bytes InPointNotKey apart both refused = (slice, refused.0, ready_of cut files slice refused.0 bytes apart both refused.1 refused.2, refused.3)
caused_by_source cut files slice bytes NotYet apart both refused =
    inr (
      both.text,
      bytes,
      record { apart = apart; list_is = both.list_is; source_is = both.source_is },
      elim refused [
        | inl not_plain ↦ inr (inl not_plain)
        | inr past ↦ inr (inr (slice, past.0, both.slice_is, past.1, past.2))
      ],
    )

-- a refusal of reading is one of the cut
pub caused_by_reading : (cut : Cut) (files : List File) (status : Status) → clashes cut ≡ false → RefusesBoth files cut.list cut.source status → Caused cut files status
caused_by_reading cut files Done apart refused = absurd refused
caused_by_reading cut files Usage apart refused = absurd refused
caused_by_reading cut files Changed apart refused = absurd refused
caused_by_reading cut files (BadY4m frame why) apart refused = absurd refused
caused_by_reading cut files SameName apart refused = absurd refused
caused_by_reading cut files (BadList line why) apart refused = absurd refused
caused_by_reading cut files (Range line) apart refused = absurd refused
caused_by_reading cut files (NoFile input) apart refused = (apart, refused)
caused_by_reading cut files (BadSource source what) apart refused = absurd refused
caused_by_reading cut files (TooLong input size) apart refused = absurd refused
caused_by_reading cut files ReadFault apart refused = tt
caused_by_reading cut files WriteFault apart refused = absurd refused
caused_by_reading cut files NoMem apart refused = tt
caused_by_reading cut files InPointNotKey apart refused = absurd refused
caused_by_reading cut files NotYet apart refused =
    inr (
      refused.0,
      refused.1,
      record { apart = apart; list_is = refused.2; source_is = refused.3 },
      elim refused.4 [
        | inl other ↦ inl other
        | inr not_plain ↦ inr (inl not_plain)
      ],
    )

-- bytes have one list of packets
plain_unique : (bytes : List ℕ) (p q : Packets) → IsPlain bytes p → IsPlain bytes q → p ≡ q
plain_unique bytes p q first second =
    let same : first.pages ≡ second.pages = ArePages-unique bytes first.pages second.pages first.fill second.fill in
    let both : Some p ≡ Some q = sym first.form ∙ ap plain_of same ∙ second.form in
    cc

-- inputs that are ready are what the other causes say that they are not
pub ready_list : (cut : Cut) (files : List File) (slice : Slice) (packets : Packets) (text : List ℕ) → IsReady cut files slice packets → contents files cut.list ≡ Some text → slice_of text ≡ Some slice
ready_list cut files slice packets text ready is = let same : ready.list ≡ text = cc (ready.given.list_is, is) in rw (← same) ready.range.list_is

pub ready_source : (cut : Cut) (files : List File) (slice : Slice) (packets : Packets) (bytes : List ℕ) → IsReady cut files slice packets → contents files cut.source ≡ Some bytes → IsPlain bytes packets
ready_source cut files slice packets bytes ready is = let same : ready.source ≡ bytes = cc (ready.given.source_is, is) in rw (← same) ready.range.plain

not_past : (cut : Cut) (files : List File) (slice other : Slice) (packets more : Packets) (text bytes : List ℕ) → IsReady cut files slice packets → contents files cut.list ≡ Some text → contents files cut.source ≡ Some bytes
    → slice_of text ≡ Some other → IsPlain bytes more → (slice ≡ other) × (packets ≡ more)
not_past cut files slice other packets more text bytes ready list_is source_is slice_is plain =
    let both : Some slice ≡ Some other = sym (ready_list cut files slice packets text ready list_is) ∙ slice_is in
    (cc, plain_unique bytes packets more (ready_source cut files slice packets bytes ready source_is) plain)

pub not_covered : (cut : Cut) (files : List File) (slice : Slice) (packets : Packets) (text bytes : List ℕ) → IsReady cut files slice packets → contents files cut.list ≡ Some text → contents files cut.source ≡ Some bytes → NotCovered text bytes → ⊥
not_covered cut files slice packets text bytes ready list_is source_is refused = elim refused [
  | inl other ↦ let some : slice_of text ≡ Some slice = ready_list cut files slice packets text ready list_is in cc
  | inr more ↦ elim more [
    | inl not_plain ↦ not_plain packets (ready_source cut files slice packets bytes ready source_is)
    | inr past ↦
        let same = not_past cut files slice past.0 packets past.1 text bytes ready list_is source_is past.2 past.3 in
        omega (arith, past.4, ready.range.range, ap {A = Slice} (λ s. s.past) same.0, ap {A = Packets} (λ p. length p.frames) same.1)
  ]
]

-- inputs that are given are there
pub given_not_missing : (cut : Cut) (files : List File) (list source : List ℕ) (input : ℕ) → IsGiven cut files list source → IsMissing files (cut.list ∷ cut.source ∷ []) input → ⊥
given_not_missing cut files list source input given missing = elim missing [
  | inl first ↦ not_absent files cut.list list given.list_is first.1
  | inr more ↦ elim more.1 [
    | inl second ↦ not_absent files cut.source source given.source_is second.1
    | inr none ↦ absurd none.1
  ]
]

-- a cut of inputs that are ready has one slice and one list of packets
pub one_cut : (cut : Cut) (files : List File) (slice other : Slice) (packets more : Packets) → IsReady cut files slice packets → IsReady cut files other more → (slice ≡ other) × (packets ≡ more)
one_cut cut files slice other packets more ready next = not_past cut files slice other packets more next.list next.source ready next.given.list_is next.given.source_is next.range.list_is next.range.plain
