-- What holds of every plan. The law of plans cites this.
use Rattle.std.proofs.Common.{◌≡◌, ℕ, zero, suc, ◌+◌, ◌-◌, ◌<◌, ◌≤◌, Bool, true, false, List, [], ◌∷◌, ◌++◌, length, map, take, drop, get_or, Option, Some, None, Ok, refl, ap, sym, ◌∙◌, arith, append_assoc, inl, inr}
use Rattle.std.specs.Prelude.{nat_lt, ◌==◌, ◌&&◌, slice_range, if◌then◌else◌}
use Rattle.std.specs.List.{list_any, position_or_len, range_with_len}
use Rattle.std.proofs.lemmas.Bool.{and_parts, cases_lt, eqb-true, false≢true, ltb-true, ltb-false}
use Rattle.std.proofs.lemmas.List.{append-nil, get_or-drop, length-drop}
use Rattle.cut_list.specs.Slices.{Slices, slices_view}
use Rattle.cut_list.specs.declared.list.Slice.{Slice as SliceStruct}
use Rattle.cut_plan.specs.Forced.{Marks, Planned, is_forced, marks_of, planned, planned_in}
use Rattle.cut_plan.specs.Runs.{all_runs, code_run, copy_run, first_key, or_line, plan_of, planned_by, planned_by_runs, runs_of}
use Rattle.cut_plan.specs.Range.{first_outside}
use Rattle.cut_plan.specs.Sound.{AllMarks, AreShort, AreSound, AreSpans, IsNearKeys, Runs}
use Rattle.cut_plan.specs.Spans.{Span, Spans, join, joined, span_of}
use Rattle.cut_plan.specs.Views.{AreInside, IsSpan}
use Rattle.cut_plan.proofs.RangeLemmas.{all_inside}
use Rattle.cut_plan.specs.declared.run.Run.{Run}
use Rattle.cut_plan.specs.declared.run.Run.TheVariants.{Copy, Code}

abbrev any : Marks → Bool
any marks = list_any (λ key. key) marks

abbrev key_of : Marks → ℕ
key_of marks = position_or_len (λ key. key) marks

-- before the first key frame among the first k, no key frame is passed
none_before : (marks : Marks) (k j : ℕ) → j < key_of (take k marks) → any (take (suc j) marks) ≡ false
none_before [] k j h = refl
none_before (key ∷ marks) zero j h = absurd (omega (arith, h))
none_before (true ∷ marks) (suc k) j h = absurd (omega (arith, h))
none_before (false ∷ marks) (suc k) zero h = refl
none_before (false ∷ marks) (suc k) (suc j) h = none_before marks k j (omega (arith, h))

-- from it on, one is
some_from : (marks : Marks) (k j : ℕ) → k ≤ length marks → j < k → key_of (take k marks) ≤ j → any (take (suc j) marks) ≡ true
some_from [] k j inside h from = absurd (omega (arith, inside, h))
some_from (key ∷ marks) zero j inside h from = absurd (omega (arith, h))
some_from (true ∷ marks) (suc k) j inside h from = refl
some_from (false ∷ marks) (suc k) zero inside h from = absurd (omega (arith, from))
some_from (false ∷ marks) (suc k) (suc j) inside h from = some_from marks k j (omega (arith, inside)) (omega (arith, h)) (omega (arith, from))

-- it is among the first k, or they are all before it
key_within : (marks : Marks) (k : ℕ) → key_of (take k marks) ≤ k
key_within [] zero = omega arith
key_within [] (suc k) = omega arith
key_within (key ∷ marks) zero = omega arith
key_within (true ∷ marks) (suc k) = omega arith
key_within (false ∷ marks) (suc k) = omega (arith, key_within marks k)

-- the frames before it are no key frames, and it is one
none_in_front : (marks : Marks) (k : ℕ) → any (take (key_of (take k marks)) marks) ≡ false
none_in_front [] zero = refl
none_in_front [] (suc k) = refl
none_in_front (key ∷ marks) zero = refl
none_in_front (true ∷ marks) (suc k) = refl
none_in_front (false ∷ marks) (suc k) = let up : 1 + key_of (take k marks) ≡ suc (key_of (take k marks)) = omega arith in rw up (none_in_front marks k)

key_there : (marks : Marks) (k : ℕ) → k ≤ length marks → key_of (take k marks) < k → get_or marks (key_of (take k marks)) false ≡ true
key_there [] k inside h = absurd (omega (arith, inside, h))
key_there (key ∷ marks) zero inside h = absurd (omega (arith, h))
key_there (true ∷ marks) (suc k) inside h = refl
key_there (false ∷ marks) (suc k) inside h =
    let up : 1 + key_of (take k marks) ≡ suc (key_of (take k marks)) = omega arith in
    rw up (key_there marks k (omega (arith, inside)) (omega (arith, h)))

-- numbers in a row, cut in two
pub range_cut : (a d e : ℕ) → range_with_len a (d + e) ≡ range_with_len a d ++ range_with_len (a + d) e
range_cut a zero e = let n : zero + e ≡ e = omega arith in let m : a + zero ≡ a = omega arith in rw (n, m) refl
range_cut a (suc d) e =
    let n : suc d + e ≡ suc (d + e) = omega arith in
    let m : a + 1 + d ≡ a + suc d = omega arith in
    rw n (ap (λ ns. a ∷ ns) (range_cut (a + 1) d e ∙ ap (λ b. range_with_len (a + 1) d ++ range_with_len b e) m))

map_append : (f : ℕ → Planned) (ns ms : List ℕ) → map f (ns ++ ms) ≡ map f ns ++ map f ms
map_append f [] ms = refl
map_append f (n ∷ ns) ms = ap (λ fs. f n ∷ fs) (map_append f ns ms)

-- two tellings that agree on numbers in a row
map_same : (f g : ℕ → Planned) (a k : ℕ) → ((n : ℕ) → a ≤ n → n < a + k → f n ≡ g n) → map f (range_with_len a k) ≡ map g (range_with_len a k)
map_same f g a zero same = refl
map_same f g a (suc k) same =
    let rest = map_same f g (a + 1) k (λ n low high. same n (omega (arith, low)) (omega (arith, high))) in
    let here = same a (omega arith) (omega arith) in
    cc

abbrev coded : ℕ → ℕ → ℕ → Planned
coded src first n = record { src = src; n = n; coded = true; key = n == first }

abbrev copied : ℕ → ℕ → Planned
copied src n = record { src = src; n = n; coded = false; key = false }

code_planned : (src first past : ℕ) → planned_by_runs (code_run src first past) ≡ map (coded src first) (range_with_len first (past - first))
unfolding planned_by
code_planned src first past = go (nat_lt first past) refl
  where
    go : (b : Bool) → nat_lt first past ≡ b → planned_by_runs (if b then Code src first past ∷ [] else []) ≡ map (coded src first) (range_with_len first (past - first))
    go true e = append-nil _
    go false e = let none : past - first ≡ 0 = omega (arith, ltb-false first past e) in rw none refl

copy_planned : (src first past : ℕ) → planned_by_runs (copy_run src first past) ≡ map (copied src) (range_with_len first (past - first))
unfolding planned_by
copy_planned src first past = go (nat_lt first past) refl
  where
    go : (b : Bool) → nat_lt first past ≡ b → planned_by_runs (if b then Copy src first past ∷ [] else []) ≡ map (copied src) (range_with_len first (past - first))
    go true e = append-nil _
    go false e = let none : past - first ≡ 0 = omega (arith, ltb-false first past e) in rw none refl

planned_append : (rs ts : List Run) → planned_by_runs (rs ++ ts) ≡ planned_by_runs rs ++ planned_by_runs ts
planned_append [] ts = refl
planned_append (r ∷ rs) ts = ap (λ ws. planned_by r ++ ws) (planned_append rs ts) ∙ sym (append_assoc (planned_by r) (planned_by_runs rs) (planned_by_runs ts))

-- the frames of the runs of a joined slice are its frames, forced or not
span_planned : (marks : Marks) (span : Span) → span.first < span.past → span.past ≤ length marks → planned_by_runs (runs_of marks span) ≡ planned_in marks span
unfolding runs_of planned_in is_forced
span_planned marks span ordered ends =
    let k = span.past - span.first in
    let w = drop span.first marks in
    let d = key_of (take k w) in
    let size : k ≤ length w = omega (arith, length-drop span.first marks, ends) in
    let within : d ≤ k = key_within w k in
    let f : ℕ → Planned = λ n. record { src = span.src; n = n; coded = is_forced marks span n; key = is_forced marks span n && n == span.first } in
    let back : span.first + d - span.first ≡ d = omega arith in
    let left : span.past - (span.first + d) ≡ k - d = omega arith in
    let whole : k ≡ d + (k - d) = omega (arith, within) in
    let one : map f (range_with_len span.first d) ≡ map (coded span.src span.first) (range_with_len span.first d) =
    map_same f (coded span.src span.first) span.first d (λ n low high.
    let j : n + 1 - span.first ≡ suc (n - span.first) = omega (arith, low) in
    let none = none_before w k (n - span.first) (omega (arith, low, high)) in
    rw (j, none) refl) in
    let two : map f (range_with_len (span.first + d) (k - d)) ≡ map (copied span.src) (range_with_len (span.first + d) (k - d)) =
    map_same f (copied span.src) (span.first + d) (k - d) (λ n low high.
    let j : n + 1 - span.first ≡ suc (n - span.first) = omega (arith, low) in
    let some = some_from w k (n - span.first) size (omega (arith, low, high, within)) (omega (arith, low)) in
    rw (j, some) refl) in
    let front = range_with_len span.first d in
    let behind = range_with_len (span.first + d) (k - d) in
    let all : planned_in marks span ≡ map (coded span.src span.first) front ++ map (copied span.src) behind =
    ap (λ n. map f (range_with_len span.first n)) whole ∙ ap (map f) (range_cut span.first d (k - d)) ∙ map_append f front behind
    ∙ ap (λ ws. ws ++ map f behind) one ∙ ap (λ ws. map (coded span.src span.first) front ++ ws) two in
    planned_append (code_run span.src span.first (span.first + d)) (copy_run span.src (span.first + d) span.past)
    ∙ rw (code_planned span.src span.first (span.first + d), copy_planned span.src (span.first + d) span.past, back, left) (sym all)

-- joined slices lie in their sources, as the slices do
join-inside : (marks : AllMarks) (span : Span) (spans : Spans) → IsSpan marks span → AreSpans marks spans → AreSpans marks (join span spans)
join-inside marks span [] one all = (one, tt)
join-inside marks span (next ∷ spans) one all = go (span.src == next.src && span.past == next.first) refl
  where
    go : (b : Bool) → (span.src == next.src && span.past == next.first) ≡ b
        → AreSpans marks (if b then record { src = span.src; first = span.first; past = next.past } ∷ spans else span ∷ next ∷ spans)
    go true e =
        let same : span.src ≡ next.src = eqb-true span.src next.src (and_parts (span.src == next.src) (span.past == next.first) e).0 in
        let touch : span.past ≡ next.first = eqb-true span.past next.first (and_parts (span.src == next.src) (span.past == next.first) e).1 in
        let ends : next.past ≤ length (marks_of marks span.src) = rw same all.0.ends in
        (record { ordered = omega (arith, one.ordered, touch, all.0.ordered); source = one.source; known = one.known; ends = ends }, all.1)
    go false e = (one, all)

pub joined-inside : (marks : AllMarks) (slices : Slices) → AreInside marks slices → AreSpans marks (joined slices)
unfolding joined
joined-inside marks [] inside = tt
joined-inside marks (slice ∷ slices) inside = join-inside marks (span_of slice) (joined slices) inside.0 (joined-inside marks slices inside.1)

-- the runs of joined slices are their frames
runs-planned : (marks : AllMarks) (spans : Spans) → AreSpans marks spans → planned_by_runs (all_runs marks spans) ≡ planned marks spans
runs-planned marks [] all = refl
runs-planned marks (span ∷ spans) all =
    planned_append (runs_of (marks_of marks span.src) span) (all_runs marks spans)
    ∙ rw (span_planned (marks_of marks span.src) span all.0.ordered all.0.ends, runs-planned marks spans all.1) refl

-- the runs of a joined slice are sound
sound-append : (marks : AllMarks) (rs ts : Runs) → AreSound marks rs → AreSound marks ts → AreSound marks (rs ++ ts)
sound-append marks [] ts a b = b
sound-append marks (r ∷ rs) ts a b = (a.0, sound-append marks rs ts a.1 b)

code-sound : (marks : AllMarks) (span : Span) → IsSpan marks span → AreSound marks (code_run span.src span.first (first_key (marks_of marks span.src) span))
code-sound marks span one = go (nat_lt span.first (first_key (marks_of marks span.src) span)) refl
  where
    go : (b : Bool) → nat_lt span.first (first_key (marks_of marks span.src) span) ≡ b
        → AreSound marks (if b then Code span.src span.first (first_key (marks_of marks span.src) span) ∷ [] else [])
    go false e = tt
    go true e =
        let k = span.past - span.first in
        let w = drop span.first (marks_of marks span.src) in
        let within : key_of (take k w) ≤ k = key_within w k in
        let back : span.first + key_of (take k w) - span.first ≡ key_of (take k w) = omega arith in
        ((record { ordered = ltb-true _ _ e; source = one.source; known = one.known; ends = omega (arith, within, one.ordered, one.ends) }, rw back (none_in_front w k)), tt)

copy-sound : (marks : AllMarks) (span : Span) → IsSpan marks span → AreSound marks (copy_run span.src (first_key (marks_of marks span.src) span) span.past)
copy-sound marks span one = go (nat_lt (first_key (marks_of marks span.src) span) span.past) refl
  where
    go : (b : Bool) → nat_lt (first_key (marks_of marks span.src) span) span.past ≡ b
        → AreSound marks (if b then Copy span.src (first_key (marks_of marks span.src) span) span.past ∷ [] else [])
    go false e = tt
    go true e =
        let k = span.past - span.first in
        let w = drop span.first (marks_of marks span.src) in
        let size : k ≤ length w = omega (arith, length-drop span.first (marks_of marks span.src), one.ends) in
        let before : span.first + key_of (take k w) < span.past = ltb-true _ _ e in
        let there : get_or w (key_of (take k w)) false ≡ true = key_there w k size (omega (arith, before)) in
        ((record { ordered = before; source = one.source; known = one.known; ends = one.ends }, sym (get_or-drop span.first (marks_of marks span.src) (key_of (take k w)) false) ∙ there), tt)

pub runs-sound : (marks : AllMarks) (spans : Spans) → AreSpans marks spans → AreSound marks (all_runs marks spans)
unfolding runs_of
runs-sound marks [] all = tt
runs-sound marks (span ∷ spans) all =
    sound-append marks (runs_of (marks_of marks span.src) span) (all_runs marks spans)
    (sound-append marks (code_run span.src span.first (first_key (marks_of marks span.src) span)) (copy_run span.src (first_key (marks_of marks span.src) span) span.past)
    (code-sound marks span all.0) (copy-sound marks span all.0))
    (runs-sound marks spans all.1)

-- a plan is made of slices in range
plan-inside : (marks : AllMarks) (slices : List SliceStruct) (runs : Runs) → plan_of (map (λ m. length m) marks) marks (slices_view slices) ≡ Ok runs
    → AreSpans marks (joined (slices_view slices)) × (all_runs marks (joined (slices_view slices)) ≡ runs)
unfolding plan_of
plan-inside marks slices runs plan = go (first_outside (map (λ m. length m) marks) 0 (slices_view slices)) refl plan
  where
    go : (o : Option ℕ) → first_outside (map (λ m. length m) marks) 0 (slices_view slices) ≡ o → or_line o (all_runs marks (joined (slices_view slices))) ≡ Ok runs
        → AreSpans marks (joined (slices_view slices)) × (all_runs marks (joined (slices_view slices)) ≡ runs)
    go (Some line) e plan = cc
    go None e plan = (joined-inside marks (slices_view slices) (all_inside marks 0 slices e), cc)

pub plan-planned : (marks : AllMarks) (slices : List SliceStruct) (runs : Runs) → plan_of (map (λ m. length m) marks) marks (slices_view slices) ≡ Ok runs
    → planned_by_runs runs ≡ planned marks (joined (slices_view slices))
plan-planned marks slices runs plan =
    let made = plan-inside marks slices runs plan in
    ap planned_by_runs (sym made.1) ∙ runs-planned marks (joined (slices_view slices)) made.0

pub plan-sound : (marks : AllMarks) (slices : List SliceStruct) (runs : Runs) → plan_of (map (λ m. length m) marks) marks (slices_view slices) ≡ Ok runs → AreSound marks runs
plan-sound marks slices runs plan =
    let made = plan-inside marks slices runs plan in
    rw made.1 at (runs-sound marks (joined (slices_view slices)) made.0)

-- a key frame within a run is among its frames
any-there : (marks : Marks) (j k : ℕ) → j < k → get_or marks j false ≡ true → any (take k marks) ≡ true
any-there [] j k h there = cc
any-there (key ∷ marks) j zero h there = absurd (omega (arith, h))
any-there (true ∷ marks) j (suc k) h there = refl
any-there (false ∷ marks) zero (suc k) h there = cc
any-there (false ∷ marks) (suc j) (suc k) h there = any-there marks j k (omega (arith, h)) there

-- a Code run has no more frames than a frame can stand behind its key
code-short : (marks : Marks) (reach first past : ℕ) → IsNearKeys reach marks → first < past → past ≤ length marks → any (slice_range marks first past) ≡ false → past ≤ first + reach
code-short marks reach first past near some ends none = go (near (past - 1) (omega (arith, some, ends)))
  where
    go : (k : ℕ) × (k ≤ past - 1) × (past - 1 < k + reach) × (get_or marks k false ≡ true) → past ≤ first + reach
    go (k, low, high, key) = elim (cases_lt k first) [
      | inl before ↦ omega (arith, before, high, some)
      | inr from ↦ (let at : first + (k - first) ≡ k = omega (arith, from) in
          let there : get_or (drop first marks) (k - first) false ≡ true = get_or-drop first marks (k - first) false ∙ ap (λ n. get_or marks n false) at ∙ key in
          let seen = any-there (drop first marks) (k - first) (past - first) (omega (arith, from, low, some)) there in
          absurd (false≢true (sym none ∙ seen)))
    ]

runs-short : (marks : AllMarks) (reach : ℕ) (runs : Runs) → ((src : ℕ) → IsNearKeys reach (marks_of marks src)) → AreSound marks runs → AreShort reach runs
runs-short marks reach [] near all = tt
runs-short marks reach (Copy src first past ∷ runs) near all = runs-short marks reach runs near all.1
runs-short marks reach (Code src first past ∷ runs) near all =
    (code-short (marks_of marks src) reach first past (near src) all.0.0.ordered all.0.0.ends all.0.1, runs-short marks reach runs near all.1)

pub plan-short : (marks : AllMarks) (slices : List SliceStruct) (runs : Runs) (reach : ℕ) → plan_of (map (λ m. length m) marks) marks (slices_view slices) ≡ Ok runs
    → ((src : ℕ) → IsNearKeys reach (marks_of marks src)) → AreShort reach runs
plan-short marks slices runs reach plan near = runs-short marks reach runs near (plan-sound marks slices runs plan)
