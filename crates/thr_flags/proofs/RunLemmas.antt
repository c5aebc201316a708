-- A run of a string is read at once: whole, past the end, or up to a fault behind it. `read_runs` cites these, and the writers some.
use Rattle.std.proofs.Common.{arith, ◌≡◌, ◌∙◌, ◌+◌, ◌-◌, ◌<◌, ℕ, zero, suc, Bool, List, [], ◌∷◌, ◌++◌, length, Result, Ok, Err, sym, ap, refl, append_assoc, zero-add}
use Rattle.std.proofs.lemmas.List.{append-nil}
use Rattle.std.proofs.Math.Nat.{suc-add}
use Rattle.std.specs.Prelude.{replicate}
use Rattle.vid_base.specs.declared.fault.PacketFault.{PacketFault}
use Rattle.vid_base.specs.declared.fault.PacketFault.TheVariants.{RunTooLong}
use Rattle.vid_base.specs.Items.{with_front}
use Rattle.thr_flags.specs.RunStrings.{RunForm, next_value, run_of, run_on, run_string, values}
use Rattle.vid_base.specs.Reading.{one_bit}

-- what a string reads
abbrev pub Read : Type 0
Read = Result (List Bool × List Bool) PacketFault

pub with_nothing : (read : Read) → with_front [] read ≡ read
with_nothing (Ok o) = refl
with_nothing (Err e) = refl

pub with_both : (xs ys : List Bool) (read : Read) → with_front xs (with_front ys read) ≡ with_front (xs ++ ys) read
with_both xs ys (Ok o) = ap (λ z. Ok (z, o.1)) (sym (append_assoc xs ys o.0))
with_both xs ys (Err e) = refl

-- a run of `left` values
pub values_run : (code : RunForm) (left m run : ℕ) (v : Bool) (bits : List Bool) → values code (left + m) left run v bits ≡ with_front (replicate left v) (values code m 0 run v bits)
unfolding values
values_run code zero m run v bits = rw zero-add (sym (with_nothing _))
values_run code (suc left) m run v bits = rw (suc-add, values_run code left m run v bits) (with_both (v ∷ []) (replicate left v) _)

-- a run that passes the end
values_long : (code : RunForm) (n left run : ℕ) (v : Bool) (bits : List Bool) → n < left → values code n left run v bits ≡ Err RunTooLong
unfolding values
values_long code zero zero run v bits h = absurd (omega arith)
values_long code zero (suc left) run v bits h = refl
values_long code (suc n) zero run v bits h = absurd (omega arith)
values_long code (suc n) (suc left) run v bits h = rw (values_long code n left run v bits (omega arith)) refl

-- the value behind a run, and the run that it begins
values_next : (code : RunForm) (m run r : ℕ) (v w : Bool) (bits bits1 bits2 : List Bool) → 0 < m → 0 < r
    → next_value code run v bits ≡ Ok (w, bits1) → run_of code bits1 ≡ Ok (r, bits2)
    → values code m 0 run v bits ≡ values code m r r w bits2
unfolding values
values_next code zero run r v w bits bits1 bits2 h hr e e2 = absurd (omega arith)
values_next code (suc n) run zero v w bits bits1 bits2 h hr e e2 = absurd (omega arith)
values_next code (suc n) run (suc r) v w bits bits1 bits2 h hr e e2 =
    let s : suc r - 1 ≡ r = omega arith in rw (e, e2, s) refl

-- one run more, where t was read before and m values are wanted
pub step_next : {whole : Read} (code : RunForm) (m m' run r : ℕ) (v w : Bool) (t t' : List Bool) (bits bits1 bits2 : List Bool)
    → with_front t (values code m run run v bits) ≡ whole → m ≡ run + m' → 0 < m' → 0 < r → t' ≡ t ++ replicate run v
    → next_value code run v bits ≡ Ok (w, bits1) → run_of code bits1 ≡ Ok (r, bits2)
    → with_front t' (values code m' r r w bits2) ≡ whole
step_next code m m' run r v w t t' bits bits1 bits2 same em hm hr et e e2 =
    rw (et, ← with_both t (replicate run v) (values code m' r r w bits2), ← values_next code m' run r v w bits bits1 bits2 hm hr e e2, ← values_run code run m' run v bits, ← em) same

-- the last run
pub step_last : {whole : Read} (code : RunForm) (m run : ℕ) (v : Bool) (t t' : List Bool) (bits : List Bool)
    → with_front t (values code m run run v bits) ≡ whole → m ≡ run → t' ≡ t ++ replicate run v → whole ≡ Ok (t', bits)
unfolding values
step_last code m run v t t' bits same em et =
    let e : m ≡ run + 0 = omega arith in
    sym same ∙ ap (λ z. with_front t (values code z run run v bits)) e ∙ ap (with_front t) (values_run code run 0 run v bits)
    ∙ ap (λ z. Ok (z, bits)) (ap (λ z. t ++ z) (append-nil (replicate run v)) ∙ sym et)

-- a run too long
pub step_long : {whole : Read} (code : RunForm) (m run : ℕ) (v : Bool) (t : List Bool) (bits : List Bool)
    → with_front t (values code m run run v bits) ≡ whole → m < run → whole ≡ Err RunTooLong
step_long code m run v t bits same h = sym same ∙ ap (with_front t) (values_long code m run run v bits h)

step_fault : {whole : Read} (code : RunForm) (m m' run : ℕ) (v : Bool) (t : List Bool) (bits : List Bool) (fault : PacketFault)
    → with_front t (values code m run run v bits) ≡ whole → m ≡ run + m' → values code m' 0 run v bits ≡ Err fault → whole ≡ Err fault
step_fault code m m' run v t bits fault same em x =
    sym same ∙ ap (λ z. with_front t (values code z run run v bits)) em ∙ ap (with_front t) (values_run code run m' run v bits ∙ ap (with_front (replicate run v)) x)

value_fault : (code : RunForm) (m run : ℕ) (v : Bool) (bits : List Bool) (fault : PacketFault) → 0 < m → next_value code run v bits ≡ Err fault → values code m 0 run v bits ≡ Err fault
unfolding values
value_fault code zero run v bits fault h e = absurd (omega arith)
value_fault code (suc m) run v bits fault h e = rw e refl

run_fault : (code : RunForm) (m run : ℕ) (v w : Bool) (bits bits1 : List Bool) (fault : PacketFault) → 0 < m → next_value code run v bits ≡ Ok (w, bits1) → run_of code bits1 ≡ Err fault → values code m 0 run v bits ≡ Err fault
unfolding values
run_fault code zero run v w bits bits1 fault h e e2 = absurd (omega arith)
run_fault code (suc m) run v w bits bits1 fault h e e2 = rw (e, e2) refl

-- the value behind a run is not there
pub step_value_fault : {whole : Read} (code : RunForm) (m m' run : ℕ) (v : Bool) (t : List Bool) (bits : List Bool) (fault : PacketFault)
    → with_front t (values code m run run v bits) ≡ whole → m ≡ run + m' → 0 < m' → next_value code run v bits ≡ Err fault → whole ≡ Err fault
step_value_fault code m m' run v t bits fault same em h e = step_fault code m m' run v t bits fault same em (value_fault code m' run v bits fault h e)

-- the run behind it is not there
pub step_run_fault : {whole : Read} (code : RunForm) (m m' run : ℕ) (v w : Bool) (t : List Bool) (bits bits1 : List Bool) (fault : PacketFault)
    → with_front t (values code m run run v bits) ≡ whole → m ≡ run + m' → 0 < m' → next_value code run v bits ≡ Ok (w, bits1) → run_of code bits1 ≡ Err fault → whole ≡ Err fault
step_run_fault code m m' run v w t bits bits1 fault same em h e e2 = step_fault code m m' run v t bits fault same em (run_fault code m' run v w bits bits1 fault h e e2)

-- a string of no values
pub string_none : (code : RunForm) (xs bits : List Bool) → length xs ≡ 0 → run_string code (length xs) bits ≡ Ok (xs, bits)
unfolding run_string
string_none code [] bits h = refl
string_none code (x ∷ xs) bits h = absurd (omega arith)

-- its first value and run
pub string_first : (code : RunForm) (n r : ℕ) (v : Bool) (bits bits1 bits2 : List Bool) → 0 < n → 0 < r → one_bit bits ≡ Ok (v, bits1) → run_of code bits1 ≡ Ok (r, bits2)
    → run_string code n bits ≡ values code n r r v bits2
unfolding run_string run_on values
string_first code zero r v bits bits1 bits2 h hr e e2 = absurd (omega arith)
string_first code (suc n) zero v bits bits1 bits2 h hr e e2 = absurd (omega arith)
string_first code (suc n) (suc r) v bits bits1 bits2 h hr e e2 = let s : suc r - 1 ≡ r = omega arith in rw (e, e2, s) refl

pub string_value_fault : (code : RunForm) (n : ℕ) (bits : List Bool) (fault : PacketFault) → 0 < n → one_bit bits ≡ Err fault → run_string code n bits ≡ Err fault
unfolding run_string
string_value_fault code zero bits fault h e = absurd (omega arith)
string_value_fault code (suc n) bits fault h e = rw e refl

pub string_run_fault : (code : RunForm) (n : ℕ) (v : Bool) (bits bits1 : List Bool) (fault : PacketFault) → 0 < n → one_bit bits ≡ Ok (v, bits1) → run_of code bits1 ≡ Err fault → run_string code n bits ≡ Err fault
unfolding run_string run_on
string_run_fault code zero v bits bits1 fault h e e2 = absurd (omega arith)
string_run_fault code (suc n) v bits bits1 fault h e e2 = rw (e, e2) refl
