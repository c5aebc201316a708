-- What was written of a run string is read back. The writers cite these.
use Rattle.std.proofs.Common.{arith, true, ◌≡◌, ◌∙◌, ◌+◌, ◌*◌, ◌-◌, ◌<◌, ◌≤◌, ◌^◌, ℕ, zero, suc, Bool, List, [], ◌∷◌, ◌++◌, length, length-append, take, drop, Option, Some, None, Ok, Err, OnOk, Result, sym, ap, refl, append_assoc, inl, inr, subst, IfSome}
use Rattle.std.proofs.lemmas.Bool.{cases_lt, false≢true}
use Rattle.std.proofs.lemmas.Bool.Decides.{nat_tests}
use Rattle.std.proofs.lemmas.List.{append-nil, length-drop, length-replicate, length-take, replicate-append-replicate}
use Rattle.std.proofs.Math.Seq.{take-append_seam, drop-append_seam}
use Rattle.std.specs.Prelude.{replicate}
use Rattle.vid_base.specs.Bits.{digits}
use Rattle.vid_base.specs.Items.{with_front}
use Rattle.vid_base.proofs.DigitLemmas.{length-digits}
use Rattle.vid_base.proofs.NumberLemmas.{take-digits}
use Rattle.thr_flags.specs.RunStrings.{RunForm, Long, Short, is_renewed, longest, HasRunsUpTo, next_value, run_from, run_of, run_on, run_string, values}
use Rattle.thr_flags.specs.declared.writing.Run.{Run}
use Rattle.vid_base.specs.Reading.{one_bit}
use Rattle.vid_base.specs.Writing.{Grows, ReadsBack}
use Rattle.thr_flags.specs.Writing.{Fits, Holds, IsOpen, IsRun, most_bits}
use Rattle.thr_flags.proofs.RunLemmas.{values_run, with_both, with_nothing}

-- what follows from a fact of an `Ok`
pub on_ok : {T E : Type 0} {P Q : Type 0} (r : Result T E) → (P → Q) → OnOk r P → OnOk r Q
on_ok (Ok x) f h = f h
on_ok (Err e) f h = h

pub grows_on : (old mid new : List Bool) → Grows old mid → Grows mid new → Grows old new
grows_on old mid new f g = (f.0 ++ g.0, g.1 ∙ ap (λ z. z ++ g.0) f.1 ∙ append_assoc old f.0 g.0)

pub grows_by : (old more new : List Bool) → new ≡ old ++ more → Grows old new
grows_by old more new e = (more, e)

pub grows_not : (old : List Bool) → Grows old old
grows_not old = ([], sym (append-nil old))

-- what is held stands behind the old bits
pub holds_grows : (code : RunForm) (old now xs : List Bool) (last : Option Run) → Holds code old now xs last → Grows old now
holds_grows code old now xs None h = ([], h.1 ∙ sym (append-nil old))
holds_grows code old now xs (Some run) h = (h.more, h.added)

-- a row and how much longer the run is
pub row_back : (code : RunForm) (front width least n run : ℕ) (old mid new : List Bool)
    → ((rest : List Bool) → run_of code (digits width front ++ rest) ≡ run_from (least, n) rest) → least ≤ run → run - least < 2 ^ n
    → mid ≡ old ++ digits width front → new ≡ mid ++ digits n (run - least) → ReadsBack (run_of code) run old new
row_back code front width least n run old mid new row low high e f = record {
  more = digits width front ++ digits n (run - least);
  added = f ∙ ap (λ z. z ++ digits n (run - least)) e ∙ append_assoc old (digits width front) (digits n (run - least));
  reads = λ rest.
      let whole : least + (run - least) ≡ run = omega arith in
      let taken = take-digits n (run - least) rest high in
      rw (append_assoc (digits width front) (digits n (run - least)) rest, row (digits n (run - least) ++ rest), taken, whole) refl;
}

-- the first value
pub open_first : (code : RunForm) (old new : List Bool) (v : Bool) → new ≡ old ++ v ∷ [] → IsOpen code old new (v ∷ []) v 1
unfolding run_string one_bit
open_first code old new v e = record {
  more = v ∷ [];
  added = e;
  done = [];
  all = refl;
  few = omega arith;
  reads = λ n rest. let one : 0 + suc n ≡ suc n = omega arith in rw one (sym (with_nothing _));
}

pub replicate-snoc : (n : ℕ) (v : Bool) → replicate n v ++ v ∷ [] ≡ replicate (n + 1) v
replicate-snoc n v = replicate-append-replicate n 1 v

-- a value that goes on with the run
pub open_longer : (code : RunForm) (old now xs : List Bool) (v : Bool) (run : ℕ) → IsOpen code old now xs v run → IsOpen code old now (xs ++ v ∷ []) v (run + 1)
open_longer code old now xs v run h = record {
  more = h.more;
  added = h.added;
  done = h.done;
  few = h.few;
  all = ap (λ z. z ++ v ∷ []) h.all ∙ append_assoc h.done (replicate run v) (v ∷ []) ∙ ap (λ z. h.done ++ z) (replicate-snoc run v);
  reads = h.reads;
}

length-held : (code : RunForm) (old now xs : List Bool) (v : Bool) (run : ℕ) (h : IsOpen code old now xs v run) → length xs ≡ length h.done + run
length-held code old now xs v run h = ap length h.all ∙ length-append h.done (replicate run v) ∙ ap (λ n. length h.done + n) (length-replicate run v)

-- a run whose length was read
run_on-read : (code : RunForm) (n run : ℕ) (v : Bool) (bits rest : List Bool) → run_of code bits ≡ Ok (run, rest) → 0 < run → run_on code n v bits ≡ values code (suc n) run run v rest
unfolding run_on values
run_on-read code n zero v bits rest e h = absurd (omega arith)
run_on-read code n (suc run) v bits rest e h = let s : suc run - 1 ≡ run = omega arith in rw (e, s) refl

-- the value behind a run
values-turn : (code : RunForm) (n run : ℕ) (v w : Bool) (bits rest : List Bool) → next_value code run v bits ≡ Ok (w, rest) → values code (suc n) 0 run v bits ≡ run_on code n w rest
unfolding run_on values
values-turn code n run v w bits rest e = rw e refl

-- behind the longest run there is room for a bit more
pub one_more : (code : RunForm) (now mid new : List Bool) (v : Bool) (run : ℕ) → is_renewed code run ≡ true → length mid ≤ length now + 18 → new ≡ mid ++ v ∷ [] → length new ≤ length now + 2 * run
one_more Long now mid new v run e most is = let long : run ≡ 4129 = grind (arith, nat_tests) in omega (arith, ap length is, length-append mid (v ∷ []))
one_more Short now mid new v run e most is = absurd (false≢true e)

-- the run ends, and a value begins the next
pub open_next : (code : RunForm) (old now mid new xs end : List Bool) (v w : Bool) (run : ℕ) → IsOpen code old now xs v run → 0 < run
    → ReadsBack (run_of code) run now mid → new ≡ mid ++ end → length new ≤ length now + 2 * run → ((rest : List Bool) → next_value code run v (end ++ rest) ≡ Ok (w, rest))
    → IsOpen code old new (xs ++ w ∷ []) w 1
open_next code old now mid new xs end v w run h some c e most next = record {
  more = (h.more ++ c.more) ++ end;
  added = e ∙ ap (λ z. z ++ end) (c.added ∙ ap (λ z. z ++ c.more) h.added ∙ append_assoc old h.more c.more) ∙ append_assoc old (h.more ++ c.more) end;
  done = xs;
  all = refl;
  few = omega (
    arith,
    most,
    h.few,
    length-held code old now xs v run h,
    ap length h.added,
    ap length c.added,
    ap length e,
    length-append old h.more,
    length-append now c.more,
    length-append mid end,
    length-append (h.more ++ c.more) end,
    length-append h.more c.more,
  );
  reads = λ n rest.
      let bits : ((h.more ++ c.more) ++ end) ++ rest ≡ h.more ++ (c.more ++ (end ++ rest)) = append_assoc (h.more ++ c.more) end rest ∙ append_assoc h.more c.more (end ++ rest) in
      let count : length xs + suc n ≡ length h.done + suc (run + n) = omega (arith, length-held code old now xs v run h) in
      let more : suc (run + n) ≡ run + suc n = omega arith in
      ap (λ z. run_string code z (((h.more ++ c.more) ++ end) ++ rest)) count
      ∙ ap (run_string code (length h.done + suc (run + n))) bits
      ∙ h.reads (run + n) (c.more ++ (end ++ rest))
      ∙ ap (with_front h.done) (run_on-read code (run + n) run v (c.more ++ (end ++ rest)) (end ++ rest) (c.reads (end ++ rest)) some
      ∙ ap (λ z. values code z run run v (end ++ rest)) more
      ∙ values_run code run (suc n) run v (end ++ rest)
      ∙ ap (with_front (replicate run v)) (values-turn code n run v w (end ++ rest) rest (next rest)))
      ∙ with_both h.done (replicate run v) (run_on code n w rest)
      ∙ ap (λ z. with_front z (run_on code n w rest)) (sym h.all);
}

-- the end of a string
pub close_back : (code : RunForm) (old now new xs : List Bool) (v : Bool) (run : ℕ) → IsOpen code old now xs v run → 0 < run
    → ReadsBack (run_of code) run now new → ReadsBack (run_string code (length xs)) xs old new
unfolding values
close_back code old now new xs v run h some c = record {
  more = h.more ++ c.more;
  added = c.added ∙ ap (λ z. z ++ c.more) h.added ∙ append_assoc old h.more c.more;
  reads = λ rest.
      let count : length xs ≡ length h.done + suc (run - 1) = omega (arith, length-held code old now xs v run h) in
      let less : suc (run - 1) ≡ run + 0 = omega arith in
      ap (λ z. run_string code z ((h.more ++ c.more) ++ rest)) count
      ∙ ap (run_string code (length h.done + suc (run - 1))) (append_assoc h.more c.more rest)
      ∙ h.reads (run - 1) (c.more ++ rest)
      ∙ ap (with_front h.done) (run_on-read code (run - 1) run v (c.more ++ rest) rest (c.reads rest) some
      ∙ ap (λ z. values code z run run v rest) less
      ∙ values_run code run 0 run v rest)
      ∙ with_both h.done (replicate run v) (Ok ([], rest))
      ∙ ap (λ z. Ok (z, rest)) (append-nil (h.done ++ replicate run v) ∙ sym h.all);
}

-- nothing was written of no values
pub close_none : (code : RunForm) (old now xs : List Bool) → (xs ≡ []) × (now ≡ old) → ReadsBack (run_string code (length xs)) xs old now
unfolding run_string
close_none code old now xs h = rw (h.0, h.1) (record { more = []; added = sym (append-nil old); reads = λ rest. refl })

-- where the longest run is open, the value behind it changes
pub fits_of : (most run : ℕ) (values xs done tail : List Bool) (v : Bool) → HasRunsUpTo most values → values ≡ xs ++ v ∷ tail → xs ≡ done ++ replicate run v → run ≤ most → run < most
fits_of most run values xs done tail v h e f low = elim (cases_lt run most) [
  | inl less ↦ less
  | inr whole ↦
      let full : run ≡ most = omega arith in
      let long : length (replicate (most + 1) v) ≡ most + 1 = length-replicate (most + 1) v in
      let all : values ≡ done ++ (replicate (most + 1) v ++ tail) =
      e ∙ ap (λ z. z ++ v ∷ tail) f ∙ append_assoc done (replicate run v) (v ∷ tail)
      ∙ ap (λ z. done ++ z) (sym (append_assoc (replicate run v) (v ∷ []) tail) ∙ ap (λ z. z ++ tail) (replicate-snoc run v ∙ ap (λ n. replicate (n + 1) v) full)) in
      let behind : drop (length done) values ≡ replicate (most + 1) v ++ tail = ap (drop (length done)) all ∙ drop-append_seam done (replicate (most + 1) v ++ tail) in
      absurd (h (length done) v (ap (take (most + 1)) behind ∙ ap (λ n. take n (replicate (most + 1) v ++ tail)) (sym long) ∙ take-append_seam (replicate (most + 1) v) tail))
]

-- the value behind the open run fits, where the values have no run that is too long
pub fits_held : (code : RunForm) (old now bits xs tail : List Bool) (v : Bool) (last : Option Run) → (code ≡ Short → HasRunsUpTo 30 bits) → bits ≡ xs ++ v ∷ tail
    → Holds code old now xs last → IfSome last (IsRun code) → IfSome last (λ run. Fits code run v)
fits_held code old now bits xs tail v None want e h r = tt
fits_held code old now bits xs tail v (Some run) want e h r = λ short same.
    let P : RunForm → Type 0 = λ z. run.length ≤ longest z in
    fits_of 30 run.length bits xs h.done tail v (want short) e (h.all ∙ ap (λ b. h.done ++ replicate run.length b) same) (subst P short r.1)

-- so few values have no run that is too long
pub few_rows : (most : ℕ) (values : List Bool) → length values ≤ most → HasRunsUpTo most values
few_rows most values few at v e =
    let long : length (replicate (most + 1) v) ≡ most + 1 = length-replicate (most + 1) v in
    absurd (omega (arith, ap length e, long, length-take (most + 1) (drop at values), length-drop at values))

-- and few bits were added
pub close_few : (code : RunForm) (old now new xs : List Bool) (v : Bool) (run : ℕ) → IsOpen code old now xs v run → length new ≤ length now + 2 * run → length new ≤ length old + most_bits (length xs)
close_few code old now new xs v run h most = omega (arith, most, h.few, length-held code old now xs v run h, ap length h.added, length-append old h.more)

pub close_few_none : (old now xs : List Bool) → (xs ≡ []) × (now ≡ old) → length now ≤ length old + most_bits (length xs)
close_few_none old now xs h = rw (h.0, h.1) (omega arith)

-- a run has few bits
row_long : (front width n longer : ℕ) (old mid new : List Bool) → mid ≡ old ++ digits width front → new ≡ mid ++ digits n longer → length new ≡ length old + (width + n)
row_long front width n longer old mid new e f =
    omega (arith, ap length e, ap length f, length-append old (digits width front), length-append mid (digits n longer), length-digits width front, length-digits n longer)

pub row_few : (front width n longer most : ℕ) (old mid new : List Bool) → width + n ≤ most → mid ≡ old ++ digits width front → new ≡ mid ++ digits n longer → length new ≤ length old + most
row_few front width n longer most old mid new few e f = omega (arith, few, row_long front width n longer old mid new e f)
