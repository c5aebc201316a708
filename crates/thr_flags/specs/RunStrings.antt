-- Run strings: truth values coded by the lengths of their runs (Theora I, 7.2). n counts values, v is a value.
use Rattle.std.specs.Prelude.{ℕ, zero, suc, ◌+◌, ◌-◌, ◌≢◌, ◌==◌, Bool, false, not, List, [], ◌∷◌, take, drop, replicate, Result, Ok, Err, if◌then◌else◌}
use Rattle.vid_base.specs.declared.fault.PacketFault.{PacketFault}
use Rattle.vid_base.specs.declared.fault.PacketFault.TheVariants.{RunTooLong}
use Rattle.vid_base.specs.Reading.{◌>>=◌, field, one_bit}
use Rattle.vid_base.specs.Items.{with_front}

-- the two kinds of strings: they code the lengths of runs differently (Theora I, 7.2.1 and 7.2.2)
pub data RunForm : Type 0 where
  Long : RunForm
  Short : RunForm

-- a row of a table of runs: its shortest run, and how many bits say how much longer a run is
abbrev pub run_from : ℕ × ℕ → List Bool → Result (ℕ × List Bool) PacketFault
run_from row bits = field row.1 bits >>= (λ longer. Ok (row.0 + longer.0, longer.1))

-- a run by a table: a bit 0 takes the row, a bit 1 goes on to the next; the last row has no such bit
abbrev pub run_in : List (ℕ × ℕ) → ℕ × ℕ → List Bool → Result (ℕ × List Bool) PacketFault
run_in [] last bits = run_from last bits
run_in (row ∷ rows) last bits = one_bit bits >>= (λ on. if on.0 then run_in rows last on.1 else run_from row on.1)

-- the length of a run (Theora I, 7.2.1 and 7.2.2)
unfoldable pub run_of : RunForm → List Bool → Result (ℕ × List Bool) PacketFault
run_of Long bits = run_in ((1, 0) ∷ (2, 1) ∷ (4, 1) ∷ (6, 2) ∷ (10, 3) ∷ (18, 4) ∷ []) (34, 12) bits
run_of Short bits = run_in ((1, 1) ∷ (3, 1) ∷ (5, 1) ∷ (7, 2) ∷ (11, 2) ∷ []) (15, 4) bits

-- the longest run
abbrev pub longest : RunForm → ℕ
longest Long = 4129
longest Short = 30

-- whether the run behind a run of so many has a value of its own: behind the longest run of a long string
abbrev pub is_renewed : RunForm → ℕ → Bool
is_renewed Long run = run == 4129
is_renewed Short run = false

-- the value of the next run: the other one, or a bit
unfoldable pub next_value : RunForm → ℕ → Bool → List Bool → Result (Bool × List Bool) PacketFault
next_value code run v bits = if is_renewed code run then one_bit bits else Ok (not v, bits)

-- n values, of which as many as are left of a run of v come first; a run that passes them is too long
unfoldable pub values : RunForm → ℕ → ℕ → ℕ → Bool → List Bool → Result (List Bool × List Bool) PacketFault
values code zero zero run v bits = Ok ([], bits)
values code zero (suc left) run v bits = Err RunTooLong
values code (suc n) (suc left) run v bits = with_front (v ∷ []) (values code n left run v bits)
values code (suc n) zero run v bits = next_value code run v bits >>= (λ w. run_of code w.1 >>= (λ next. with_front (w.0 ∷ []) (values code n (next.0 - 1) next.0 w.0 next.1)))

-- one value of v and n behind it, where the length of its run is still to be read
unfoldable pub run_on : RunForm → ℕ → Bool → List Bool → Result (List Bool × List Bool) PacketFault
run_on code n v bits = run_of code bits >>= (λ run. with_front (v ∷ []) (values code n (run.0 - 1) run.0 v run.1))

-- a string of n values: the first run's value is a bit; a string of none has no bits
unfoldable pub run_string : RunForm → ℕ → List Bool → Result (List Bool × List Bool) PacketFault
run_string code zero bits = Ok ([], bits)
run_string code (suc n) bits = one_bit bits >>= (λ v. run_on code n v.0 v.1)

-- a long run string (Theora I, 7.2.1)
abbrev pub long_string : ℕ → List Bool → Result (List Bool × List Bool) PacketFault
long_string n bits = run_string Long n bits

-- a short run string (Theora I, 7.2.2)
abbrev pub short_string : ℕ → List Bool → Result (List Bool × List Bool) PacketFault
short_string n bits = run_string Short n bits

-- no more than so many equal values stand in a row
abbrev pub HasRunsUpTo : ℕ → List Bool → Type 0
HasRunsUpTo most values = (at : ℕ) (v : Bool) → take (most + 1) (drop at values) ≢ replicate (most + 1) v
