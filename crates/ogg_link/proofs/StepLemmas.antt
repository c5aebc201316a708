-- A page without a fault: the definition of a step as a function of its checks. Written streams, whose pages a walk goes over, cite these.
use Rattle.std.proofs.Common.{◌≡◌, ℕ, Bool, true, false, not, ◌||◌, ◌&&◌, List, [], ◌∷◌, length, sum, nat_lt, Result, Ok, Err, if◌then◌else◌, refl, sym, ap, subst, ◌∙◌, arith, eq-eqb, lt-ltb, true≢false, is_none}
use Rattle.ogg_page.specs.Page.{Page}
use Rattle.ogg_page.specs.Packets.{Piece, segments, left_from}
use Rattle.ogg_link.specs.declared.state.State.{State}
use Rattle.ogg_link.specs.declared.fault.LinkFault.{LinkFault}
use Rattle.ogg_link.specs.declared.fault.LinkFault.TheVariants.{MissingPage, BadContinued, NoTrack, HeadersNotAlone, DataAfterEnd, Chained}
use Rattle.ogg_link.specs.Flags.{is_continued, is_first}
use Rattle.ogg_link.specs.Progress.{after_pieces, is_crowded, GoOn, Holds}
use Rattle.ogg_link.specs.Walk.{start, step, track_step, is_of_track, is_missing, is_badly_continued, is_shared, passed_by}
use Rattle.ogg_link.specs.Faultless.{Follows, Begins, stepped}
use Rattle.ogg_link.specs.Parts.{parts_from, parts_of, lacing_if}
use Rattle.ogg_link.proofs.KeyLemmas.{segments_go_on, holds_on}

-- the first check that fails, or what is known after a page of the track or of another stream
pub checks : Bool → Bool → Bool → Bool → Bool → Bool → Bool → Bool → State → State → Result State LinkFault
checks chained no_track of_track closed missing continued shared crowded after passed =
    if chained then Err Chained
    else if no_track then Err NoTrack
    else if of_track then (if closed then Err DataAfterEnd
    else if missing then Err MissingPage
    else if continued then Err BadContinued
    else if shared || crowded then Err HeadersNotAlone
    else Ok after)
    else Ok passed

pub all_right : (after passed : State) → checks false false true false false false false false after passed ≡ Ok after
unfolding checks
all_right after passed = refl

-- the definition as a function of its parts
pub by_checks : (state : State) (page : Page) → step state page ≡ checks (is_first page.flags && state.past_first_pages) (not (is_first page.flags) && is_none state.track)
    (is_of_track state page) state.closed (is_missing state page) (is_badly_continued state page) (is_shared state page) (is_crowded state.progress.packets page.lacing)
    (stepped state page) (passed_by state page)
unfolding step track_step checks
by_checks state page = refl

same_flag : (a b : Bool) → a && (if b then not b else b) ≡ false
same_flag true true = refl
same_flag true false = refl
same_flag false b = refl

and_true : (a : Bool) → a ≡ a && true
and_true true = refl
and_true false = refl

no_flag : (a : Bool) → a && false ≡ false
no_flag true = refl
no_flag false = refl

-- a later page of the track that fits what is known
pub step_right : (state : State) (page : Page) → Follows state page → step state page ≡ Ok (stepped state page)
step_right state page fits =
    let chained : is_first page.flags && state.past_first_pages ≡ false = rw fits.later refl in
    let no_track : not (is_first page.flags) && is_none state.track ≡ false = rw (fits.later, fits.of_track) refl in
    let of_track : is_of_track state page ≡ true = rw fits.of_track (eq-eqb page.serial page.serial refl) in
    let missing : is_missing state page ≡ false = rw (fits.of_track, eq-eqb _ _ fits.next_number) refl in
    let badly : is_badly_continued state page ≡ false = rw fits.goes_on (same_flag (nat_lt 0 (length page.lacing)) state.progress.unfinished) in
    let shared : is_shared state page ≡ false = rw fits.of_track fits.later in
    by_checks state page ∙ (λ i. checks (chained i) (no_track i) (of_track i) (fits.open_track i) (missing i) (badly i) (shared i) (fits.roomy i) (stepped state page) (passed_by state page)) ∙ all_right _ _

-- the track's first page
pub first_step_right : (state : State) (page : Page) → Begins state page → step state page ≡ Ok (stepped state page)
first_step_right state page fits =
    let chained : is_first page.flags && state.past_first_pages ≡ false = rw fits.no_data (no_flag (is_first page.flags)) in
    let no_track : not (is_first page.flags) && is_none state.track ≡ false = rw fits.begins_stream refl in
    let of_track : is_of_track state page ≡ true = rw (fits.no_track, fits.begins_stream, fits.header) refl in
    let missing : is_missing state page ≡ false = rw fits.no_track refl in
    let badly : is_badly_continued state page ≡ false = rw (fits.whole, fits.goes_on) (no_flag (nat_lt 0 (length page.lacing))) in
    let shared : is_shared state page ≡ false = rw (fits.no_track, fits.alone) refl in
    by_checks state page ∙ (λ i. checks (chained i) (no_track i) (of_track i) (fits.open_track i) (missing i) (badly i) (shared i) (fits.roomy i) (stepped state page) (passed_by state page)) ∙ all_right _ _

goes_on_well : (a b c d e f g h : Bool) (after passed next : State) → checks a b c d e f g h after passed ≡ Ok next → c ≡ true → f ≡ false
unfolding checks
goes_on_well true b c d e f g h after passed next ok t = cc
goes_on_well false true c d e f g h after passed next ok t = cc
goes_on_well false false false d e f g h after passed next ok t = cc
goes_on_well false false true true e f g h after passed next ok t = cc
goes_on_well false false true false true f g h after passed next ok t = cc
goes_on_well false false true false false true g h after passed next ok t = cc
goes_on_well false false true false false false g h after passed next ok t = refl

next_is : (a b c d e f g h : Bool) (after passed next : State) → checks a b c d e f g h after passed ≡ Ok next → next ≡ (if c then after else passed)
unfolding checks
next_is true b c d e f g h after passed next ok = cc
next_is false true c d e f g h after passed next ok = cc
next_is false false false d e f g h after passed next ok = cc
next_is false false true true e f g h after passed next ok = cc
next_is false false true false true f g h after passed next ok = cc
next_is false false true false false true g h after passed next ok = cc
next_is false false true false false false true h after passed next ok = cc
next_is false false true false false false false true after passed next ok = cc
next_is false false true false false false false false after passed next ok = cc

-- behind a page without a fault its packets are known; a page of another stream has none
pub progress_behind : (state next : State) (page : Page) → step state page ≡ Ok next
    → next.progress ≡ after_pieces state.progress (segments (lacing_if (is_of_track state page) page.lacing) page.body)
unfolding after_pieces segments
progress_behind state next page ok =
    ap (λ s. s.progress) (next_is _ _ (is_of_track state page) _ _ _ _ _ (stepped state page) (passed_by state page) next (sym (by_checks state page) ∙ ok))
    ∙ elim (is_of_track state page) as (λ b. (if◌then◌else◌ {A = State} b (stepped state page) (passed_by state page)).progress ≡ after_pieces state.progress (segments (lacing_if b page.lacing) page.body)) [
      | true ↦ refl
      | false ↦ refl
    ]

-- before the first page no packet is unfinished
pub start_holds : Holds start.progress []
start_holds = record { whole = λ _. refl; begun = λ e. absurd (true≢false (sym e)); key = λ e. absurd (true≢false (sym e)) }

pub track_go_on : (track : Bool) (lacing body : List ℕ) → sum lacing ≡ length body → GoOn (segments (lacing_if track lacing) body)
unfolding segments GoOn
track_go_on true lacing body shape = segments_go_on lacing body shape
track_go_on false lacing body shape = tt

-- what a walk knows behind a page is of the packet that is then unfinished
pub walk_holds : (state next : State) (page : Page) (front : List ℕ) → sum page.lacing ≡ length page.body → step state page ≡ Ok next → Holds state.progress front
    → Holds next.progress (left_from front (segments (lacing_if (is_of_track state page) page.lacing) page.body))
walk_holds state next page front shape ok h =
    let pieces : List Piece = segments (lacing_if (is_of_track state page) page.lacing) page.body in
    subst (λ known. Holds known (left_from front pieces)) (sym (progress_behind state next page ok)) (holds_on state.progress front pieces h (track_go_on (is_of_track state page) page.lacing page.body shape))

flag_tells : (a b : Bool) (lacing : List ℕ) → nat_lt 0 (length lacing) && (if a then not b else b) ≡ false → parts_of a lacing ≡ parts_of b lacing
unfolding parts_from
flag_tells true true lacing h = refl
flag_tells false false lacing h = refl
flag_tells true false [] h = refl
flag_tells false true [] h = refl
flag_tells true false (n ∷ lacing) h = absurd (true≢false (sym (lt-ltb 0 (length (n ∷ lacing)) (omega arith)) ∙ ap (λ b. b) (and_true (nat_lt 0 (length (n ∷ lacing)))) ∙ h))
flag_tells false true (n ∷ lacing) h = absurd (true≢false (sym (lt-ltb 0 (length (n ∷ lacing)) (omega arith)) ∙ ap (λ b. b) (and_true (nat_lt 0 (length (n ∷ lacing)))) ∙ h))

-- the parts of a page without a fault are told by its own flags
pub parts_by_flag : (state next : State) (page : Page) → step state page ≡ Ok next → is_of_track state page ≡ true
    → parts_of state.progress.unfinished page.lacing ≡ parts_of (is_continued page.flags) page.lacing
parts_by_flag state next page ok track =
    flag_tells state.progress.unfinished (is_continued page.flags) page.lacing
    (goes_on_well _ _ (is_of_track state page) _ _ (is_badly_continued state page) _ _ (stepped state page) (passed_by state page) next (sym (by_checks state page) ∙ ok) track)
