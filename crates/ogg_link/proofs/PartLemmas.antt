-- The parts of a page lie in its body, and joined they are its segments. `Walk::page` cites these.
use Rattle.std.proofs.Common.{◌≡◌, ℕ, ◌+◌, ◌-◌, ◌≤◌, Bool, true, false, List, [], ◌∷◌, ◌++◌, length, take, drop, sum, All, nat_lt, if◌then◌else◌, refl, ap, sym, ◌∙◌, arith, append_assoc}
use Rattle.std.proofs.lemmas.List.{drop-drop, append-nil}
use Rattle.std.proofs.Math.Seq.{take-add}
use Rattle.std.proofs.lemmas.Bool.{ltb-false}
use Rattle.std.proofs.lemmas.List.Elements.{All-nil, All-cons}
use Rattle.std.proofs.lemmas.List.Sums.{sum_by-cons}
use Rattle.ogg_page.specs.Packets.{segments, packets_from, left_from}
use Rattle.ogg_link.specs.declared.part.Part.{Part}
use Rattle.ogg_link.specs.Parts.{parts_from, IsWithin, StartBehindEnds, pieces_of, Joins}

pub parts_from_within : (first at : ℕ) (starts : Bool) (ns : List ℕ) (bound : ℕ) → first ≤ at → at + sum ns ≤ bound → All (IsWithin bound) (parts_from first at starts ns)
unfolding parts_from
parts_from_within first at starts [] bound h k =
    elim (nat_lt first at) as (λ b. All (IsWithin bound) (if b then record { first = first; past = at; starts = starts; ends = false } ∷ [] else [])) [
      | true ↦ All-cons (IsWithin bound) (record { first = first; past = at; starts = starts; ends = false }) [] (h, omega arith) (All-nil (IsWithin bound))
      | false ↦ All-nil (IsWithin bound)
    ]
parts_from_within first at starts (n ∷ ns) bound h k0 =
    let e : sum (n ∷ ns) ≡ n + sum ns = sum_by-cons (λ x. x) n ns in
    let k : at + (n + sum ns) ≤ bound = rw e at k0 in
    elim (nat_lt n 255) as (λ b. All (IsWithin bound) (if b then record { first = first; past = at + n; starts = starts; ends = true } ∷ parts_from (at + n) (at + n) true ns else parts_from first (at + n) starts ns)) [
      | true ↦ All-cons (IsWithin bound) (record { first = first; past = at + n; starts = starts; ends = true }) (parts_from (at + n) (at + n) true ns) (omega arith, omega arith) (parts_from_within (at + n) (at + n) true ns bound (omega arith) (omega arith))
      | false ↦ parts_from_within first (at + n) starts ns bound (omega arith) (omega arith)
    ]

pub parts_within : (parts : List Part) (starts : Bool) (ns body : List ℕ) → parts ≡ parts_from 0 0 starts ns → sum ns ≡ length body → All (IsWithin (length body)) parts
parts_within parts starts ns body e h = rw e (parts_from_within 0 0 starts ns (length body) (omega arith) (omega arith))

abbrev pub slice : ℕ → ℕ → List ℕ → List ℕ
slice first past body = take (past - first) (drop first body)

pub slice-none : (at : ℕ) (body : List ℕ) → slice at at body ≡ []
slice-none at body = let e : at - at ≡ 0 = omega arith in rw e refl

pub slice-add : (first at n : ℕ) (body : List ℕ) → first ≤ at → slice first (at + n) body ≡ slice first at body ++ take n (drop at body)
slice-add first at n body h =
    let e : at + n - first ≡ at - first + n = omega arith in
    let f : first + (at - first) ≡ at = omega arith in
    rw e (take-add (at - first) n (drop first body) ∙ ap (λ l. take (at - first) (drop first body) ++ take n l) (drop-drop (at - first) first body ∙ ap (λ k. drop k body) f))

pub same_packets : (front body : List ℕ) (first at : ℕ) (starts : Bool) (ns : List ℕ) → first ≤ at
    → packets_from front (pieces_of body (parts_from first at starts ns)) ≡ packets_from (front ++ slice first at body) (segments ns (drop at body))
unfolding parts_from packets_from segments
same_packets front body first at starts [] h =
    elim (nat_lt first at) as (λ b. packets_from front (pieces_of body (if b then record { first = first; past = at; starts = starts; ends = false } ∷ [] else [])) ≡ []) [ true ↦ refl | false ↦ refl ]
same_packets front body first at starts (n ∷ ns) h =
    let more : slice first (at + n) body ≡ slice first at body ++ take n (drop at body) = slice-add first at n body h in
    let next : drop n (drop at body) ≡ drop (at + n) body = drop-drop n at body in
    let joined : (front ++ slice first at body) ++ take n (drop at body) ≡ front ++ slice first (at + n) body = append_assoc front (slice first at body) (take n (drop at body)) ∙ ap (λ s. front ++ s) (sym more) in
    elim (nat_lt n 255) as (λ b.
    packets_from front (pieces_of body (if b then record { first = first; past = at + n; starts = starts; ends = true } ∷ parts_from (at + n) (at + n) true ns else parts_from first (at + n) starts ns))
    ≡ packets_from (front ++ slice first at body) (record { bytes = take n (drop at body); ends = b } ∷ segments ns (drop n (drop at body)))) [
      | true ↦ rw (joined, next) (ap (λ ps. (front ++ slice first (at + n) body) ∷ ps) (same_packets [] body (at + n) (at + n) true ns (omega arith) ∙ ap (λ s. packets_from s (segments ns (drop (at + n) body))) (slice-none (at + n) body)))
      | false ↦ rw (joined, next) (same_packets front body first (at + n) starts ns (omega arith))
    ]

left_nil : (b : Bool) (front body : List ℕ) (first at : ℕ) (starts : Bool) → first ≤ at → (b ≡ false → at ≤ first)
    → left_from front (pieces_of body (if b then record { first = first; past = at; starts = starts; ends = false } ∷ [] else [])) ≡ front ++ slice first at body
unfolding left_from
left_nil true front body first at starts h k = refl
left_nil false front body first at starts h k =
    let same : first ≤ at = h in
    let back : at ≤ first = k refl in
    let none : at - first ≡ 0 = omega arith in
    rw none (sym (append-nil front))

pub same_left : (front body : List ℕ) (first at : ℕ) (starts : Bool) (ns : List ℕ) → first ≤ at
    → left_from front (pieces_of body (parts_from first at starts ns)) ≡ left_from (front ++ slice first at body) (segments ns (drop at body))
unfolding parts_from left_from segments
same_left front body first at starts [] h =
    left_nil (nat_lt first at) front body first at starts h (ltb-false first at)
same_left front body first at starts (n ∷ ns) h =
    let more : slice first (at + n) body ≡ slice first at body ++ take n (drop at body) = slice-add first at n body h in
    let next : drop n (drop at body) ≡ drop (at + n) body = drop-drop n at body in
    let joined : (front ++ slice first at body) ++ take n (drop at body) ≡ front ++ slice first (at + n) body = append_assoc front (slice first at body) (take n (drop at body)) ∙ ap (λ s. front ++ s) (sym more) in
    elim (nat_lt n 255) as (λ b.
    left_from front (pieces_of body (if b then record { first = first; past = at + n; starts = starts; ends = true } ∷ parts_from (at + n) (at + n) true ns else parts_from first (at + n) starts ns))
    ≡ left_from (front ++ slice first at body) (record { bytes = take n (drop at body); ends = b } ∷ segments ns (drop n (drop at body)))) [
      | true ↦ rw next (same_left [] body (at + n) (at + n) true ns (omega arith) ∙ ap (λ s. left_from s (segments ns (drop (at + n) body))) (slice-none (at + n) body))
      | false ↦ rw (joined, next) (same_left front body first (at + n) starts ns (omega arith))
    ]

pub parts_from_join : (starts : Bool) (ns body : List ℕ) → Joins (parts_from 0 0 starts ns) ns body
parts_from_join starts ns body = record {
  packets = λ front. same_packets front body 0 0 starts ns (omega arith) ∙ ap (λ s. packets_from s (segments ns body)) (append-nil front);
  left = λ front. same_left front body 0 0 starts ns (omega arith) ∙ ap (λ s. left_from s (segments ns body)) (append-nil front);
}

pub parts_join : (parts : List Part) (starts : Bool) (ns body : List ℕ) → parts ≡ parts_from 0 0 starts ns → Joins parts ns body
parts_join parts starts ns body e = rw e (parts_from_join starts ns body)

starts_from : (first at : ℕ) (starts : Bool) (ns : List ℕ) → StartBehindEnds starts (parts_from first at starts ns)
unfolding parts_from StartBehindEnds
starts_from first at starts [] =
    elim (nat_lt first at) as (λ b. StartBehindEnds starts (if b then record { first = first; past = at; starts = starts; ends = false } ∷ [] else [])) [ true ↦ (refl, tt) | false ↦ tt ]
starts_from first at starts (n ∷ ns) =
    elim (nat_lt n 255) as (λ b. StartBehindEnds starts (if b then record { first = first; past = at + n; starts = starts; ends = true } ∷ parts_from (at + n) (at + n) true ns else parts_from first (at + n) starts ns)) [
      | true ↦ (refl, starts_from (at + n) (at + n) true ns)
      | false ↦ starts_from first (at + n) starts ns
    ]

-- a part starts a packet where the one before ends
pub parts_start : (parts : List Part) (starts : Bool) (ns : List ℕ) → parts ≡ parts_from 0 0 starts ns → StartBehindEnds starts parts
parts_start parts starts ns e = rw e (starts_from 0 0 starts ns)

-- no part starts where there is none
pub nothing_starts : (whole : Bool) → StartBehindEnds whole []
unfolding StartBehindEnds
nothing_starts whole = tt

-- no parts where there are no segments
pub nothing_joins : (body : List ℕ) → Joins [] [] body
unfolding segments
nothing_joins body = record { packets = λ front. refl; left = λ front. refl }
