-- The blocks that stand at a place are asked in order, whatever stands between them, and what becomes of them does not depend on
-- their coefficients. The functions of `checking` cite these.
use Rattle.std.proofs.Common.{◌≡◌, ◌∙◌, ℕ, zero, suc, ◌+◌, ◌-◌, ◌%◌, ◌<◌, ◌≤◌, ◌≢◌, ℤ, Bool, true, false, List, [], ◌∷◌, ◌++◌, length, length-append, length-drop, map, get_or, set, replicate, take, drop, Result, Ok, Err, inl, inr, ◌⊎◌, refl, ap, sym, subst, arith}
use Rattle.std.specs.Prelude.{cond, nat_lt}
use Rattle.std.specs.List.{count_by}
use Rattle.std.proofs.Math.Dec.{eqb}
use Rattle.std.proofs.lemmas.Bool.{eq-eqb, ne_eqb, lt-ltb, le-ltb}
use Rattle.std.proofs.lemmas.Bool.Decides.{eqb_tells}
use Rattle.std.proofs.lemmas.List.{append_assoc, append-nil, map-append, get_or-set_other, get_or-set_same, get_or-replicate, length-map, length-take}
use Rattle.vid_base.specs.declared.fault.PacketFault.{PacketFault}
use Rattle.vid_base.specs.declared.fault.PacketFault.TheVariants.{TokenPastEnd}
use Rattle.vid_base.specs.Reading.{◌>>=◌}
use Rattle.std.proofs.lemmas.List.Sums.{length-filter}
use Rattle.vid_base.specs.declared.shape.Shape.{Shape}
use Rattle.vid_geom.specs.declared.block.Block.{Block}
use Rattle.vid_geom.specs.CodedOrder.{order_of, plane_blocks}
use Rattle.thr_token.specs.declared.checking.Waiting.{Waiting}
use Rattle.thr_token.specs.Tokens.{Meaning, EndRun, ZeroRun, Value}
use Rattle.thr_token.specs.Coefficients.{Progress, Source, at_place, is_luma, places, taken, turn, unended, unended_at, untouched, untouched_blocks, visit}
use Rattle.thr_token.specs.Standing.{progress}
use Rattle.thr_token.specs.Checking.{AreBehind, AreCounted, AreDone, AreOf, AreWaiting, Asked, HaveBegun, Stands, count_at, one_at}
use Rattle.thr_token.proofs.ListingLemmas.{tells}
use Rattle.thr_token.proofs.PlaceLemmas.{places_done, places_fault, places_more}
use Rattle.thr_token.proofs.StandingLemmas.{unended_append}
use Rattle.thr_token.proofs.TreeLemmas.{luma_first}

-- 1. What becomes of a block, but for its coefficients and its count.

abbrev pub Outline : Type 0 → Type 0
Outline S = Result (((Bool × ℕ) × ℕ) × S) PacketFault

abbrev pub outline : {S : Type 0} → Result ((Progress × ℕ) × S) PacketFault → Outline S
outline (Ok x) = Ok (((x.0.0.luma, x.0.0.place), x.0.1), x.1)
outline (Err fault) = Err fault

abbrev behind : {S : Type 0} → S → Result (Progress × ℕ) PacketFault → Result ((Progress × ℕ) × S) PacketFault
behind left x = x >>= (λ after. Ok (after, left))

-- a fault is the same for both, and else both are alike
past : {S : Type 0} (left : S) (b c : Progress) (n : ℕ) → b.luma ≡ c.luma → b.place ≡ c.place → (t : Bool)
    → outline (behind left (cond t (Err TokenPastEnd) (Ok b) >>= (λ after. Ok (after, n)))) ≡ outline (behind left (cond t (Err TokenPastEnd) (Ok c) >>= (λ after. Ok (after, n))))
past left b c n luma place true = refl
past left b c n luma place false = rw (luma, place) refl

within : {S : Type 0} (left : S) (b c : Progress) (n : ℕ) → b.luma ≡ c.luma → b.place ≡ c.place → (t : Bool)
    → outline (behind left (cond t (Ok b) (Err TokenPastEnd) >>= (λ after. Ok (after, n)))) ≡ outline (behind left (cond t (Ok c) (Err TokenPastEnd) >>= (λ after. Ok (after, n))))
within left b c n luma place true = rw (luma, place) refl
within left b c n luma place false = refl

taken_outline : {S : Type 0} (place others : ℕ) (b c : Progress) (left : S) (meaning : Meaning) → b.luma ≡ c.luma
    → outline (behind left (taken place others b meaning)) ≡ outline (behind left (taken place others c meaning))
unfolding taken
taken_outline place others b c left (EndRun blocks) h = rw h refl
taken_outline place others b c left (ZeroRun zeros) h =
    past left (record { luma = b.luma; place = place + zeros; values = b.values; count = place }) (record { luma = c.luma; place = place + zeros; values = c.values; count = place }) 0 h refl (nat_lt 64 (place + zeros))
taken_outline place others b c left (Value zeros value) h =
    within left (record { luma = b.luma; place = place + zeros + 1; values = set b.values (place + zeros) value; count = place })
    (record { luma = c.luma; place = place + zeros + 1; values = set c.values (place + zeros) value; count = place }) 0 h refl (nat_lt (place + zeros) 64)

token_outline : {S : Type 0} (place others : ℕ) (b c : Progress) → b.luma ≡ c.luma → (x : Result (Meaning × S) PacketFault)
    → outline (x >>= (λ token. behind token.1 (taken place others b token.0))) ≡ outline (x >>= (λ token. behind token.1 (taken place others c token.0)))
token_outline place others b c h (Ok token) = taken_outline place others b c token.1 token.0 h
token_outline place others b c h (Err fault) = refl

turn_outline : {S : Type 0} (next : Source S) (place others : ℕ) (b c : Progress) (run : ℕ) (source : S) → b.luma ≡ c.luma
    → outline (turn next place others b run source) ≡ outline (turn next place others c run source)
unfolding turn
turn_outline next place others b c (suc run) source h = rw h refl
turn_outline next place others b c zero source h =
    token_outline place others b c h (next place b.luma source) ∙ ap (λ luma. outline (next place luma source >>= (λ token. behind token.1 (taken place others c token.0)))) h

-- a block with these outlines
pub record IsAlike {S : Type 0} (x : Result ((Progress × ℕ) × S) PacketFault) (luma : Bool) (stands rest : ℕ) (left : S) : Type 0 where
  pub block : Progress
  pub is : x ≡ Ok ((block, rest), left)
  pub kind : block.luma ≡ luma
  pub stands_at : block.place ≡ stands

-- the outline, where there is one
given : {S : Type 0} → ((Bool × ℕ) × ℕ) × S → Outline S → ((Bool × ℕ) × ℕ) × S
given d (Ok x) = x
given d (Err fault) = d

alike : {S : Type 0} (x : Result ((Progress × ℕ) × S) PacketFault) (y : Progress) (rest : ℕ) (left : S) → outline x ≡ outline (Ok ((y, rest), left)) → IsAlike x y.luma y.place rest left
unfolding given
alike {S} (Ok ((b, n), s)) y rest left e =
    let d : ((Bool × ℕ) × ℕ) × S = (((y.luma, y.place), rest), left) in
    let runs : n ≡ rest = ap (λ o. (given d o).0.1) e in
    let lefts : s ≡ left = ap (λ o. (given d o).1) e in
    record { block = b; is = rw (runs, lefts) refl; kind = ap (λ o. (given d o).0.0.0) e; stands_at = ap (λ o. (given d o).0.0.1) e }
alike (Err fault) y rest left e = absurd cc

faults : {S : Type 0} (x : Result ((Progress × ℕ) × S) PacketFault) (fault : PacketFault) → outline x ≡ Err fault → x ≡ Err fault
faults (Ok y) fault e = absurd cc
faults (Err other) fault e = cc

-- 2. Blocks by where they stand.

one_here : (place : ℕ) (b : Progress) → b.place ≡ place → one_at place b ≡ 1
unfolding one_at
one_here place b h = rw (eq-eqb b.place place h) refl

one_elsewhere : (place : ℕ) (b : Progress) → b.place ≢ place → one_at place b ≡ 0
unfolding one_at
one_elsewhere place b h = rw (ne_eqb b.place place h) refl

count_one : (place : ℕ) (b : Progress) (blocks : List Progress) → count_at place (b ∷ blocks) ≡ one_at place b + count_at place blocks
unfolding count_at
count_one place b blocks = refl

count_none : (place : ℕ) → count_at place [] ≡ 0
unfolding count_at
count_none place = refl

pub count-append : (place : ℕ) (front rest : List Progress) → count_at place (front ++ rest) ≡ count_at place front + count_at place rest
count-append place [] rest = omega (arith, count_none place)
count-append place (b ∷ front) rest = omega (arith, count-append place front rest, count_one place b (front ++ rest), count_one place b front)

pub count_few : (place : ℕ) (blocks : List Progress) → count_at place blocks ≤ length blocks
count_few place [] = omega (arith, count_none place)
count_few place (b ∷ blocks) = go (count_few place blocks) (eqb_tells b.place place)
  where
    go : count_at place blocks ≤ length blocks → ((eqb b.place place ≡ true) × (b.place ≡ place)) ⊎ ((eqb b.place place ≡ false) × (b.place ≢ place)) → count_at place (b ∷ blocks) ≤ length (b ∷ blocks)
    go few (inl here) = omega (arith, few, count_one place b blocks, one_here place b here.1)
    go few (inr elsewhere) = omega (arith, few, count_one place b blocks, one_elsewhere place b elsewhere.1)

pub unended-append : (front rest : List Progress) → unended (front ++ rest) ≡ unended front + unended rest
unfolding unended
unended-append front rest = ap unended_at (map-append (λ b. b.place) front rest) ∙ unended_append (map (λ b. b.place) front) (map (λ b. b.place) rest)

none_unended : unended [] ≡ 0
none_unended = omega (arith, unended-append [] [])

unended_one : (b : Progress) → unended (b ∷ []) ≡ cond (nat_lt b.place 64) 1 0
unfolding unended
unended_one b = omega arith

of_none : (luma : Bool) → AreOf luma []
unfolding AreOf
of_none luma = tt

of_one : (luma : Bool) (b : Progress) → b.luma ≡ luma → AreOf luma (b ∷ [])
unfolding AreOf
of_one luma b h = (h, tt)

pub of-append : (luma : Bool) (front rest : List Progress) → AreOf luma front → AreOf luma rest → AreOf luma (front ++ rest)
unfolding AreOf
of-append luma [] rest f r = r
of-append luma (b ∷ front) rest f r = (f.0, of-append luma front rest f.1 r)

of_front : (luma : Bool) (front rest : List Progress) → AreOf luma (front ++ rest) → AreOf luma front
unfolding AreOf
of_front luma [] rest h = tt
of_front luma (b ∷ front) rest h = (h.0, of_front luma front rest h.1)

of_rest : (luma : Bool) (front rest : List Progress) → AreOf luma (front ++ rest) → AreOf luma rest
unfolding AreOf
of_rest luma [] rest h = h
of_rest luma (b ∷ front) rest h = of_rest luma front rest h.1

of_head : (luma : Bool) (b : Progress) (rest : List Progress) → AreOf luma (b ∷ rest) → b.luma ≡ luma
unfolding AreOf
of_head luma b rest h = h.0

of_tail : (luma : Bool) (b : Progress) (rest : List Progress) → AreOf luma (b ∷ rest) → AreOf luma rest
unfolding AreOf
of_tail luma b rest h = h.1

-- the first block that stands at a place
pub record IsFound (place : ℕ) (blocks : List Progress) : Type 0 where
  pub passed : List Progress
  pub block : Progress
  pub behind_it : List Progress
  pub apart : blocks ≡ passed ++ block ∷ behind_it
  pub none : count_at place passed ≡ 0
  pub here : block.place ≡ place

found_here : (place : ℕ) (b : Progress) (blocks : List Progress) → b.place ≡ place → IsFound place (b ∷ blocks)
found_here place b blocks h = record { passed = []; block = b; behind_it = blocks; apart = refl; none = count_none place; here = h }

found_later : (place : ℕ) (b : Progress) (blocks : List Progress) → b.place ≢ place → IsFound place blocks → IsFound place (b ∷ blocks)
found_later place b blocks h f = record {
  passed = b ∷ f.passed;
  block = f.block;
  behind_it = f.behind_it;
  apart = ap (λ others. b ∷ others) f.apart;
  none = omega (arith, count_one place b f.passed, one_elsewhere place b h, f.none);
  here = f.here;
}

found_at : (place : ℕ) (b : Progress) (blocks : List Progress) → (0 < count_at place blocks → IsFound place blocks) → 0 < count_at place (b ∷ blocks)
    → ((eqb b.place place ≡ true) × (b.place ≡ place)) ⊎ ((eqb b.place place ≡ false) × (b.place ≢ place)) → IsFound place (b ∷ blocks)
found_at place b blocks others some (inl here) = found_here place b blocks here.1
found_at place b blocks others some (inr elsewhere) = found_later place b blocks elsewhere.1 (others (omega (arith, some, count_one place b blocks, one_elsewhere place b elsewhere.1)))

found : (place : ℕ) (blocks : List Progress) → 0 < count_at place blocks → IsFound place blocks
found place [] some = absurd (omega (arith, some, count_none place))
found place (b ∷ blocks) some = found_at place b blocks (λ h. found place blocks h) some (eqb_tells b.place place)

-- 3. Blocks at a place, one after the other.

one_passed : {S : Type 0} (next : Source S) (place : ℕ) (visited : List Progress) (b : Progress) (others : List Progress) (run : ℕ) (source : S) → b.place ≢ place
    → at_place next place visited (b ∷ others) run source ≡ at_place next place (visited ++ b ∷ []) others run source
unfolding at_place visit
one_passed next place visited b others run source h = rw (ne_eqb b.place place h) refl

nowhere : (place : ℕ) (b : Progress) (blocks : List Progress) → count_at place (b ∷ blocks) ≡ 0 → b.place ≢ place
nowhere place b blocks none here = omega (arith, none, count_one place b blocks, one_here place b here)

pub all_passed : {S : Type 0} (next : Source S) (place : ℕ) (visited passed others : List Progress) (run : ℕ) (source : S) → count_at place passed ≡ 0
    → at_place next place visited (passed ++ others) run source ≡ at_place next place (visited ++ passed) others run source
all_passed next place visited [] others run source none = rw (append-nil visited) refl
all_passed next place visited (b ∷ passed) others run source none =
    one_passed next place visited b (passed ++ others) run source (nowhere place b passed none)
    ∙ all_passed next place (visited ++ b ∷ []) passed others run source (omega (arith, none, count_one place b passed))
    ∙ ap (λ front. at_place next place front others run source) (append_assoc visited (b ∷ []) passed)

one_asked : {S : Type 0} (next : Source S) (place : ℕ) (visited : List Progress) (b after : Progress) (others : List Progress) (run rest : ℕ) (source left : S) → b.place ≡ place
    → turn next place (unended visited + unended others) b run source ≡ Ok ((after, rest), left)
    → at_place next place visited (b ∷ others) run source ≡ at_place next place (visited ++ after ∷ []) others rest left
unfolding at_place visit
one_asked next place visited b after others run rest source left h e = rw (eq-eqb b.place place h, e) refl

one_refused : {S : Type 0} (next : Source S) (place : ℕ) (visited : List Progress) (b : Progress) (others : List Progress) (run : ℕ) (source : S) (fault : PacketFault) → b.place ≡ place
    → turn next place (unended visited + unended others) b run source ≡ Err fault
    → at_place next place visited (b ∷ others) run source ≡ Err fault
unfolding at_place visit
one_refused next place visited b others run source fault h e = rw (eq-eqb b.place place h, e) refl

pub all_asked : {S : Type 0} (next : Source S) (place : ℕ) (visited : List Progress) (run : ℕ) (source : S) → at_place next place visited [] run source ≡ Ok ((visited, run), source)
unfolding at_place
all_asked next place visited run source = refl

-- blocks of one kind when k of them were asked
pub record IsMidway {S : Type 0} (next : Source S) (place : ℕ) (luma : Bool) (k : ℕ) (before blocks behind : List Progress) (run : ℕ) (source : S) (waits : List ℕ) (opened rest : ℕ) (left : S) : Type 0 where
  pub visited : List Progress
  pub waiting : List Progress
  pub same : at_place next place before (blocks ++ behind) run source ≡ at_place next place (before ++ visited) (waiting ++ behind) rest left
  pub counted : (at : ℕ) → place < at → at < 64 → get_or waits at 0 ≡ count_at at visited + count_at at waiting
  pub to_go : k + count_at place waiting ≡ count_at place blocks
  pub kind_visited : AreOf luma visited
  pub kind_waiting : AreOf luma waiting
  pub open_is : opened ≡ unended before + unended visited + unended waiting + unended behind
  pub as_many : length visited + length waiting ≡ length blocks

pub asked_none : {S : Type 0} (next : Source S) (place : ℕ) (luma : Bool) (before blocks behind : List Progress) (run : ℕ) (source : S) (waits : List ℕ) (opened : ℕ)
    → Stands place luma waits opened before blocks behind → IsMidway next place luma 0 before blocks behind run source waits opened run source
asked_none next place luma before blocks behind run source waits opened s = record {
  visited = [];
  waiting = blocks;
  same = rw (append-nil before) refl;
  counted = λ at above below. omega (arith, s.counted at (omega (arith, above)) below, count_none at);
  to_go = omega arith;
  kind_visited = of_none luma;
  kind_waiting = s.kind;
  open_is = omega (arith, s.open_is, none_unended);
  as_many = omega arith;
}

pub asked_all : {S : Type 0} (next : Source S) (place : ℕ) (luma : Bool) (before blocks behind : List Progress) (run : ℕ) (source : S) (waits : List ℕ) (opened rest : ℕ) (left : S)
    → IsMidway next place luma (count_at place blocks) before blocks behind run source waits opened rest left → Asked next place luma before blocks behind run source waits opened rest left
asked_all next place luma before blocks behind run source waits opened rest left m = record {
  after = m.visited ++ m.waiting;
  same = m.same ∙ all_passed next place (before ++ m.visited) m.waiting behind rest left (omega (arith, m.to_go))
      ∙ ap (λ front. at_place next place front behind rest left) (append_assoc before m.visited m.waiting);
  counted = λ at above below. omega (arith, m.counted at (omega (arith, above)) below, count-append at m.visited m.waiting);
  kind = of-append luma m.visited m.waiting m.kind_visited m.kind_waiting;
  open_is = omega (arith, m.open_is, unended-append m.visited m.waiting);
  as_many = omega (arith, length-append m.visited m.waiting, m.as_many);
}

-- the block that is asked next stands behind these and before those
pub record IsNext {S : Type 0} (next : Source S) (place : ℕ) (luma : Bool) (k : ℕ) (before blocks behind : List Progress) (run : ℕ) (source : S) (waits : List ℕ) (opened rest : ℕ) (left : S)
    (m : IsMidway next place luma k before blocks behind run source waits opened rest left) : Type 0 where
  pub front : List Progress
  pub block : Progress
  pub back : List Progress
  pub same : at_place next place before (blocks ++ behind) run source ≡ at_place next place (before ++ front) (block ∷ (back ++ behind)) rest left
  pub here : block.place ≡ place
  pub kind : block.luma ≡ luma
  pub kind_front : AreOf luma front
  pub kind_back : AreOf luma back
  pub others : unended (before ++ front) + unended (back ++ behind) + 1 ≡ opened
  pub opened_is : unended before + unended front + 1 + unended back + unended behind ≡ opened
  pub counted : (at : ℕ) → place < at → at < 64 → get_or waits at 0 ≡ count_at at front + count_at at back
  pub to_go : k + 1 + count_at place back ≡ count_at place blocks
  pub as_many : length front + 1 + length back ≡ length blocks

next_found : {S : Type 0} (next : Source S) (place : ℕ) (luma : Bool) (k : ℕ) (before blocks behind : List Progress) (run : ℕ) (source : S) (waits : List ℕ) (opened rest : ℕ) (left : S)
    (m : IsMidway next place luma k before blocks behind run source waits opened rest left) → place < 64 → IsFound place m.waiting → IsNext next place luma k before blocks behind run source waits opened rest left m
next_found next place luma k before blocks behind run source waits opened rest left m low f =
    let front : List Progress = m.visited ++ f.passed in
    let kinds : AreOf luma (f.passed ++ f.block ∷ f.behind_it) = subst (AreOf luma) f.apart m.kind_waiting in
    let apart : unended m.waiting ≡ unended f.passed + unended (f.block ∷ f.behind_it) = ap unended f.apart ∙ unended-append f.passed (f.block ∷ f.behind_it) in
    let one : unended (f.block ∷ []) ≡ 1 = unended_one f.block ∙ rw (lt-ltb f.block.place 64 (omega (arith, low, f.here))) refl in
    let two : unended (f.block ∷ f.behind_it) ≡ 1 + unended f.behind_it = omega (arith, unended-append (f.block ∷ []) f.behind_it, one) in
    let fronts : unended front ≡ unended m.visited + unended f.passed = unended-append m.visited f.passed in
    let all : unended before + unended front + 1 + unended f.behind_it + unended behind ≡ opened = omega (arith, m.open_is, apart, two, fronts) in
    let lengths : length m.waiting ≡ length f.passed + suc (length f.behind_it) = ap length f.apart ∙ length-append f.passed (f.block ∷ f.behind_it) in
    record {
      front = front;
      block = f.block;
      back = f.behind_it;
      same = m.same ∙ ap (λ others. at_place next place (before ++ m.visited) (others ++ behind) rest left) f.apart
          ∙ ap (λ others. at_place next place (before ++ m.visited) others rest left) (append_assoc f.passed (f.block ∷ f.behind_it) behind)
          ∙ all_passed next place (before ++ m.visited) f.passed (f.block ∷ (f.behind_it ++ behind)) rest left f.none
          ∙ ap (λ front. at_place next place front (f.block ∷ (f.behind_it ++ behind)) rest left) (append_assoc before m.visited f.passed);
      here = f.here;
      kind = of_head luma f.block f.behind_it (of_rest luma f.passed (f.block ∷ f.behind_it) kinds);
      kind_front = of-append luma m.visited f.passed m.kind_visited (of_front luma f.passed (f.block ∷ f.behind_it) kinds);
      kind_back = of_tail luma f.block f.behind_it (of_rest luma f.passed (f.block ∷ f.behind_it) kinds);
      others = omega (arith, all, unended-append before front, unended-append f.behind_it behind);
      opened_is = all;
      counted = λ at above below. omega (
        arith,
        m.counted at above below,
        ap (count_at at) f.apart,
        count-append at f.passed (f.block ∷ f.behind_it),
        count_one at f.block f.behind_it,
        one_elsewhere at f.block (λ is. omega (arith, is, f.here, above)),
        count-append at m.visited f.passed,
      );
      to_go = omega (arith, m.to_go, ap (count_at place) f.apart, count-append place f.passed (f.block ∷ f.behind_it), count_one place f.block f.behind_it, one_here place f.block f.here, f.none);
      as_many = omega (arith, m.as_many, lengths, length-append m.visited f.passed);
    }

pub next_is : {S : Type 0} (next : Source S) (place : ℕ) (luma : Bool) (k : ℕ) (before blocks behind : List Progress) (run : ℕ) (source : S) (waits : List ℕ) (opened rest : ℕ) (left : S)
    (m : IsMidway next place luma k before blocks behind run source waits opened rest left) → place < 64 → k < count_at place blocks → IsNext next place luma k before blocks behind run source waits opened rest left m
next_is next place luma k before blocks behind run source waits opened rest left m low more =
    next_found next place luma k before blocks behind run source waits opened rest left m low (found place m.waiting (omega (arith, m.to_go, more)))

-- it is refused as a block without coefficients is
pub asked_fault : {S : Type 0} (next : Source S) (place : ℕ) (luma : Bool) (k : ℕ) (before blocks behind : List Progress) (run : ℕ) (source : S) (waits : List ℕ) (opened rest : ℕ) (left : S)
    (m : IsMidway next place luma k before blocks behind run source waits opened rest left) → IsNext next place luma k before blocks behind run source waits opened rest left m
    → (others : ℕ) (values : List ℤ) (count : ℕ) (fault : PacketFault) → (0 < opened → others + 1 ≡ opened) → turn next place others (progress luma place values count) rest left ≡ Err fault
    → at_place next place before (blocks ++ behind) run source ≡ Err fault
asked_fault next place luma k before blocks behind run source waits opened rest left m n others values count fault o e =
    let all : unended (before ++ n.front) + unended (n.back ++ behind) ≡ others = omega (arith, n.others, o (omega (arith, n.others))) in
    let same = turn_outline next place others n.block (progress luma place values count) rest left n.kind ∙ ap outline e in
    n.same ∙ one_refused next place (before ++ n.front) n.block (n.back ++ behind) rest left fault n.here
    (ap (λ k. turn next place k n.block rest left) all ∙ faults (turn next place others n.block rest left) fault same)

-- how many stand at the places behind this one, and how many have not ended, when it was asked
pub record HasMoved (place : ℕ) (waits : List ℕ) (opened : ℕ) (stands : ℕ) (new_waits : List ℕ) (new_opened : ℕ) : Type 0 where
  pub others : (at : ℕ) → at ≢ stands → get_or new_waits at 0 ≡ get_or waits at 0
  pub own : stands < 64 → get_or waits stands 0 < 4294967295 → get_or new_waits stands 0 ≡ get_or waits stands 0 + 1
  pub opened_is : 0 < opened → new_opened + 1 ≡ opened + cond (nat_lt stands 64) 1 0

pub has_moved : (place : ℕ) (waits : List ℕ) (opened : ℕ) (stands : ℕ) (new_waits : List ℕ) (new_opened : ℕ) → length waits ≡ 64
    → (stands < 64 → (new_waits ≡ set waits stands ((get_or waits stands 0 + 1) % 4294967296)) × (new_opened ≡ opened))
    → (64 ≤ stands → 0 < opened → (new_waits ≡ waits) × (new_opened + 1 ≡ opened))
    → 0 < opened → HasMoved place waits opened stands new_waits new_opened
has_moved place waits opened stands new_waits new_opened long stays ends some = tells stands (HasMoved place waits opened stands new_waits new_opened)
    (λ below. record {
      others = λ at ne. ap (λ w. get_or w at 0) (stays below).0 ∙ get_or-set_other waits stands at ((get_or waits stands 0 + 1) % 4294967296) 0 ne;
      own = λ _ few. ap (λ w. get_or w stands 0) (stays below).0 ∙ get_or-set_same waits stands ((get_or waits stands 0 + 1) % 4294967296) 0 (omega (arith, long, below)) ∙ omega (arith, few);
      opened_is = λ _. rw (lt-ltb stands 64 below) (omega (arith, (stays below).1));
    })
    (λ above. record {
      others = λ at ne. ap (λ w. get_or w at 0) (ends above some).0;
      own = λ below few. absurd (omega (arith, above, below));
      opened_is = λ _. rw (le-ltb stands 64 above) (omega (arith, (ends above some).1));
    })

moved_at : (at stands place : ℕ) (waits : List ℕ) (opened : ℕ) (new_waits : List ℕ) (new_opened : ℕ) (b : Progress) → b.place ≡ stands → at < 64 → get_or waits at 0 < 4294967295
    → HasMoved place waits opened stands new_waits new_opened → get_or new_waits at 0 ≡ get_or waits at 0 + one_at at b
moved_at at stands place waits opened new_waits new_opened b is below few moved = go (eqb_tells b.place at)
  where
    go : ((eqb b.place at ≡ true) × (b.place ≡ at)) ⊎ ((eqb b.place at ≡ false) × (b.place ≢ at)) → get_or new_waits at 0 ≡ get_or waits at 0 + one_at at b
    go (inl here) =
        let same : stands ≡ at = omega (arith, is, here.1) in
        let own : get_or new_waits at 0 ≡ get_or waits at 0 + 1 = subst (λ p. p < 64 → get_or waits p 0 < 4294967295 → get_or new_waits p 0 ≡ get_or waits p 0 + 1) same moved.own below few in
        omega (arith, own, one_here at b here.1)
    go (inr elsewhere) =
        let other : at ≢ stands = λ e. elsewhere.1 (omega (arith, is, e)) in
        omega (arith, moved.others at other, one_elsewhere at b elsewhere.1)

pub asked_more : {S : Type 0} (next : Source S) (place : ℕ) (luma : Bool) (k : ℕ) (before blocks behind : List Progress) (run : ℕ) (source : S) (waits : List ℕ) (opened rest : ℕ) (left : S)
    (m : IsMidway next place luma k before blocks behind run source waits opened rest left) → IsNext next place luma k before blocks behind run source waits opened rest left m
    → (others : ℕ) (values block : List ℤ) (count new_count stands new_rest : ℕ) (new_left : S) (new_waits : List ℕ) (new_opened : ℕ)
    → (0 < opened → others + 1 ≡ opened) → length blocks < 4294967295
    → turn next place others (progress luma place values count) rest left ≡ Ok ((progress luma stands block new_count, new_rest), new_left)
    → (0 < opened → HasMoved place waits opened stands new_waits new_opened)
    → IsMidway next place luma (k + 1) before blocks behind run source new_waits new_opened new_rest new_left
asked_more next place luma k before blocks behind run source waits opened rest left m n others values block count new_count stands new_rest new_left new_waits new_opened o few e moves =
    let some : 0 < opened = omega (arith, n.others) in
    let moved = moves some in
    let all : unended (before ++ n.front) + unended (n.back ++ behind) ≡ others = omega (arith, n.others, o some) in
    let a = alike (turn next place others n.block rest left) (progress luma stands block new_count) new_rest new_left
    (turn_outline next place others n.block (progress luma place values count) rest left n.kind ∙ ap outline e) in
    let y : Progress = a.block in
    let one : unended (y ∷ []) ≡ cond (nat_lt stands 64) 1 0 = unended_one y ∙ ap (λ p. cond (nat_lt p 64) 1 0) a.stands_at in
    record {
      visited = n.front ++ y ∷ [];
      waiting = n.back;
      same = n.same ∙ one_asked next place (before ++ n.front) n.block y (n.back ++ behind) rest new_rest left new_left n.here (ap (λ k. turn next place k n.block rest left) all ∙ a.is)
          ∙ ap (λ front. at_place next place front (n.back ++ behind) new_rest new_left) (append_assoc before n.front (y ∷ []));
      counted = λ at above below. omega (
        arith,
        n.counted at above below,
        count-append at n.front (y ∷ []),
        count_one at y [],
        count_none at,
        moved_at at stands place waits opened new_waits new_opened y a.stands_at below
            (omega (arith, n.counted at above below, count_few at n.front, count_few at n.back, n.as_many, few)) moved,
      );
      to_go = n.to_go;
      kind_visited = of-append luma n.front (y ∷ []) n.kind_front (of_one luma y a.kind);
      kind_waiting = n.kind_back;
      open_is = omega (arith, moved.opened_is some, n.opened_is, unended-append n.front (y ∷ []), one);
      as_many = omega (arith, length-append n.front (y ∷ []), n.as_many);
    }

-- 4. Blocks of both kinds.

pub first_kind : (place : ℕ) (w : Waiting) (lumas chromas : List Progress) → AreWaiting place w lumas chromas → Stands place true w.luma w.unended [] lumas chromas
first_kind place w lumas chromas a = record { counted = a.lumas_counted; kind = a.lumas_are; open_is = omega (arith, a.open_is, none_unended); few = a.few_lumas }

pub second_kind : {S : Type 0} (next : Source S) (place : ℕ) (w : Waiting) (lumas chromas : List Progress) (run : ℕ) (source : S) (waits : List ℕ) (opened rest : ℕ) (left : S) → AreWaiting place w lumas chromas
    → (a : Asked next place true [] lumas chromas run source waits opened rest left) → Stands place false w.chroma opened a.after chromas []
second_kind next place w lumas chromas run source waits opened rest left h a = record {
  counted = h.chromas_counted;
  kind = h.chromas_are;
  open_is = omega (arith, a.open_is, none_unended);
  few = h.few_chromas;
}

pub first_fault : {S : Type 0} (next : Source S) (place : ℕ) (w : Waiting) (lumas chromas : List Progress) (run : ℕ) (source : S) (waits : List ℕ) (opened rest : ℕ) (left : S) (fault : PacketFault)
    → (a : Asked next place true [] lumas chromas run source waits opened rest left) → at_place next place a.after (chromas ++ []) rest left ≡ Err fault
    → at_place next place [] (lumas ++ chromas) run source ≡ Err fault
first_fault next place w lumas chromas run source waits opened rest left fault a e =
    a.same ∙ ap (λ blocks. at_place next place a.after blocks rest left) (sym (append-nil chromas)) ∙ e

pub both_kinds : {S : Type 0} (next : Source S) (place : ℕ) (w : Waiting) (lumas chromas : List Progress) (run : ℕ) (source : S) (waits : List ℕ) (opened rest : ℕ) (left : S) (new : Waiting) (new_rest : ℕ) (new_left : S)
    → AreWaiting place w lumas chromas → (a : Asked next place true [] lumas chromas run source waits opened rest left)
    → Asked next place false a.after chromas [] rest left new.chroma new.unended new_rest new_left → new.luma ≡ waits
    → AreBehind next place lumas chromas run source new new_rest new_left
both_kinds next place w lumas chromas run source waits opened rest left new new_rest new_left h a b same = record {
  lumas_after = a.after;
  chromas_after = b.after;
  same = a.same ∙ ap (λ blocks. at_place next place a.after blocks rest left) (sym (append-nil chromas)) ∙ b.same ∙ all_asked next place (a.after ++ b.after) new_rest new_left;
  waiting_is = record {
    lumas_counted = subst (λ w. AreCounted (place + 1) w a.after) (sym same) a.counted;
    chromas_counted = b.counted;
    lumas_are = a.kind;
    chromas_are = b.kind;
    open_is = omega (arith, b.open_is, none_unended);
    few_lumas = omega (arith, a.as_many, h.few_lumas);
    few_chromas = omega (arith, b.as_many, h.few_chromas);
  };
}

-- before a place behind the first
pub record HaveCome {S : Type 0} (next : Source S) (place : ℕ) (lumas chromas : List Progress) (run : ℕ) (source : S) (waiting : Waiting) (rest : ℕ) (left : S) : Type 0 where
  pub lumas_now : List Progress
  pub chromas_now : List Progress
  pub same : places next (64 - place) place (lumas_now ++ chromas_now) rest left ≡ places next 63 1 (lumas ++ chromas) run source
  pub waiting_is : AreWaiting place waiting lumas_now chromas_now

pub come_none : {S : Type 0} (next : Source S) (lumas chromas : List Progress) (run : ℕ) (source : S) (waiting : Waiting) → AreWaiting 1 waiting lumas chromas → HaveCome next 1 lumas chromas run source waiting run source
come_none next lumas chromas run source waiting h = record { lumas_now = lumas; chromas_now = chromas; same = refl; waiting_is = h }

pub come_more : {S : Type 0} (next : Source S) (place : ℕ) (lumas chromas : List Progress) (run : ℕ) (source : S) (waiting : Waiting) (rest : ℕ) (left : S) (new : Waiting) (new_rest : ℕ) (new_left : S) → place < 64
    → (h : HaveCome next place lumas chromas run source waiting rest left) → AreBehind next place h.lumas_now h.chromas_now rest left new new_rest new_left
    → HaveCome next (place + 1) lumas chromas run source new new_rest new_left
come_more next place lumas chromas run source waiting rest left new new_rest new_left low h b = record {
  lumas_now = b.lumas_after;
  chromas_now = b.chromas_after;
  same = places_more next place (h.lumas_now ++ h.chromas_now) (b.lumas_after ++ b.chromas_after) rest new_rest left new_left low b.same ∙ h.same;
  waiting_is = b.waiting_is;
}

pub come_fault : {S : Type 0} (next : Source S) (place : ℕ) (lumas chromas : List Progress) (run : ℕ) (source : S) (waiting : Waiting) (rest : ℕ) (left : S) (fault : PacketFault) → place < 64
    → (h : HaveCome next place lumas chromas run source waiting rest left) → at_place next place [] (h.lumas_now ++ h.chromas_now) rest left ≡ Err fault
    → places next 63 1 (lumas ++ chromas) run source ≡ Err fault
come_fault next place lumas chromas run source waiting rest left fault low h e = sym h.same ∙ places_fault next place (h.lumas_now ++ h.chromas_now) rest left fault low e

pub come_all : {S : Type 0} (next : Source S) (place : ℕ) (lumas chromas : List Progress) (run : ℕ) (source : S) (waiting : Waiting) (rest : ℕ) (left : S) → 64 ≤ place
    → HaveCome next place lumas chromas run source waiting rest left → AreDone next lumas chromas run source left
come_all next place lumas chromas run source waiting rest left high h = record {
  all = h.lumas_now ++ h.chromas_now;
  rest = rest;
  same = sym h.same ∙ places_done next place (h.lumas_now ++ h.chromas_now) rest left high;
}

-- 5. Before the first tokens.

-- blocks before their first tokens, of one kind
abbrev pub of_flags : Bool → List Bool → List Progress
of_flags luma flags = map (untouched luma) flags

count_flag : (coded : Bool) (flags : List Bool) → count_by (λ coded. coded) (coded ∷ flags) ≡ cond coded 1 0 + count_by (λ coded. coded) flags
count_flag true flags = omega (arith, length-filter (λ coded. coded) (true ∷ flags), length-filter (λ coded. coded) flags)
count_flag false flags = omega (arith, length-filter (λ coded. coded) (false ∷ flags), length-filter (λ coded. coded) flags)

first_flag : (luma coded : Bool) → one_at 0 (untouched luma coded) ≡ cond coded 1 0
first_flag luma true = one_here 0 (untouched luma true) refl
first_flag luma false = one_elsewhere 0 (untouched luma false) (λ e. omega arith)

later_flag : (place : ℕ) (luma coded : Bool) → 0 < place → place < 64 → one_at place (untouched luma coded) ≡ 0
later_flag place luma true some low = one_elsewhere place (untouched luma true) (λ e. omega arith)
later_flag place luma false some low = one_elsewhere place (untouched luma false) (λ e. omega arith)

coded_first : (luma : Bool) (flags : List Bool) → count_at 0 (of_flags luma flags) ≡ count_by (λ coded. coded) flags
coded_first luma [] = count_none 0
coded_first luma (coded ∷ flags) = omega (arith, coded_first luma flags, count_one 0 (untouched luma coded) (of_flags luma flags), first_flag luma coded, count_flag coded flags)

coded_later : (place : ℕ) (luma : Bool) (flags : List Bool) → 0 < place → place < 64 → count_at place (of_flags luma flags) ≡ 0
coded_later place luma [] some low = count_none place
coded_later place luma (coded ∷ flags) some low = omega (arith, coded_later place luma flags some low, count_one place (untouched luma coded) (of_flags luma flags), later_flag place luma coded some low)

coded_open : (luma : Bool) (flags : List Bool) → unended (of_flags luma flags) ≡ count_by (λ coded. coded) flags
coded_open luma [] = none_unended
coded_open luma (true ∷ flags) = omega (arith, coded_open luma flags, unended-append (untouched luma true ∷ []) (of_flags luma flags), unended_one (untouched luma true), count_flag true flags)
coded_open luma (false ∷ flags) = omega (arith, coded_open luma flags, unended-append (untouched luma false ∷ []) (of_flags luma flags), unended_one (untouched luma false), count_flag false flags)

of_kind : (luma : Bool) (flags : List Bool) → AreOf luma (of_flags luma flags)
of_kind luma [] = of_none luma
of_kind luma (coded ∷ flags) = of-append luma (untouched luma coded ∷ []) (of_flags luma flags) (of_one luma (untouched luma coded) refl) (of_kind luma flags)

-- only the first entry is not 0
pub begun_counted : (luma : Bool) (flags : List Bool) (waits : List ℕ) → waits ≡ set (replicate 64 0) 0 (count_by (λ coded. coded) flags) → AreCounted 0 waits (of_flags luma flags)
begun_counted luma flags waits is zero above below = ap (λ w. get_or w 0 0) is ∙ get_or-set_same (replicate 64 0) 0 (count_by (λ coded. coded) flags) 0 (omega arith) ∙ sym (coded_first luma flags)
begun_counted luma flags waits is (suc place) above below = ap (λ w. get_or w (suc place) 0) is ∙ get_or-set_other (replicate 64 0) 0 (suc place) (count_by (λ coded. coded) flags) 0 (λ e. omega arith)
    ∙ get_or-replicate 64 (suc place) 0 0 below ∙ sym (coded_later (suc place) luma flags (omega arith) below)

-- the blocks of luma stand first
record AreFirst (blocks : List Block) (n : ℕ) : Type 0 where
  before : (b : ℕ) → b < length blocks → b < n → get_or (map is_luma blocks) b false ≡ true
  behind_them : (b : ℕ) → b < length blocks → n ≤ b → get_or (map is_luma blocks) b false ≡ false

split_blocks : (blocks : List Block) (flags : List Bool) (n : ℕ) → length flags ≡ length blocks → AreFirst blocks n
    → of_flags true (take n flags) ++ of_flags false (drop n flags) ≡ untouched_blocks blocks flags
unfolding untouched_blocks
split_blocks [] [] zero long first = refl
split_blocks [] [] (suc n) long first = refl
split_blocks [] (coded ∷ flags) n long first = absurd (omega arith)
split_blocks (b ∷ blocks) [] n long first = absurd (omega arith)
split_blocks (b ∷ blocks) (coded ∷ flags) zero long first =
    let kind : is_luma b ≡ false = first.behind_them 0 (omega arith) (omega arith) in
    let others = split_blocks blocks flags zero (omega arith) (record { before = λ k h below. absurd (omega arith); behind_them = λ k h above. first.behind_them (suc k) (omega arith) (omega arith) }) in
    rw kind (ap (λ others. untouched false coded ∷ others) others)
split_blocks (b ∷ blocks) (coded ∷ flags) (suc n) long first =
    let kind : is_luma b ≡ true = first.before 0 (omega arith) (omega arith) in
    let others = split_blocks blocks flags n (omega arith) (record { before = λ k h below. first.before (suc k) (omega arith) (omega arith); behind_them = λ k h above. first.behind_them (suc k) (omega arith) (omega arith) }) in
    rw kind (ap (λ others. untouched true coded ∷ others) others)

are_first : (s : Shape) (n : ℕ) → n ≡ plane_blocks s 0 → AreFirst (order_of s) n
are_first s n is = record {
  before = λ b h below. luma_first s b h ∙ lt-ltb b (plane_blocks s 0) (omega arith);
  behind_them = λ b h above. luma_first s b h ∙ le-ltb b (plane_blocks s 0) (omega arith);
}

pub begun : (s : Shape) (flags : List Bool) (n : ℕ) (w : Waiting) → length flags ≡ length (order_of s) → length flags < 4294967295 → n ≡ plane_blocks s 0
    → w.luma ≡ set (replicate 64 0) 0 (count_by (λ coded. coded) (take n flags)) → w.chroma ≡ set (replicate 64 0) 0 (count_by (λ coded. coded) (drop n flags))
    → w.unended ≡ count_by (λ coded. coded) (take n flags) + count_by (λ coded. coded) (drop n flags)
    → HaveBegun s flags w
begun s flags n w long few is lumas chromas opened = record {
  lumas = of_flags true (take n flags);
  chromas = of_flags false (drop n flags);
  all = split_blocks (order_of s) flags n long (are_first s n is);
  waiting_is = record {
    lumas_counted = begun_counted true (take n flags) w.luma lumas;
    chromas_counted = begun_counted false (drop n flags) w.chroma chromas;
    lumas_are = of_kind true (take n flags);
    chromas_are = of_kind false (drop n flags);
    open_is = omega (arith, opened, coded_open true (take n flags), coded_open false (drop n flags));
    few_lumas = omega (arith, few, length-map (take n flags) (untouched true), length-take n flags);
    few_chromas = omega (arith, few, length-map (drop n flags) (untouched false), length-drop n flags);
  };
}

pub begun_at : {S : Type 0} (next : Source S) (front blocks : List Progress) (run : ℕ) (source : S) (answer : Result ((List Progress × ℕ) × S) PacketFault) → front ≡ blocks
    → at_place next 0 [] front run source ≡ answer → at_place next 0 [] blocks run source ≡ answer
begun_at next front blocks run source answer same e = ap (λ z. at_place next 0 [] z run source) (sym same) ∙ e
