-- What a writer adds to the bits that were there (own). old are the bits before a call, new those after it.
use Rattle.std.specs.Prelude.{◌≡◌, ◌<◌, ◌≤◌, ◌+◌, ◌*◌, ℕ, suc, Bool, List, [], ◌++◌, length, replicate, Option, Some, None}
use Rattle.vid_base.specs.Items.{with_front}
use Rattle.vid_base.specs.Writing.{ReadsBack}
use Rattle.thr_flags.specs.RunStrings.{RunForm, Short, longest, run_on, run_string}
use Rattle.thr_flags.specs.declared.writing.Run.{Run}

-- a run string of these values was added
abbrev pub AddsString : RunForm → List Bool → List Bool → List Bool → Type 0
AddsString code values old new = ReadsBack (run_string code (length values)) values old new

-- a string of n values adds so many bits at most: its first value has one, and a run has two for each value of it
abbrev pub most_bits : ℕ → ℕ
most_bits n = 1 + 2 * n

-- runs that were written end with one of v that is still open, of so many values: whatever follows, reading goes on with its length
pub record IsOpen (code : RunForm) (old now xs : List Bool) (v : Bool) (run : ℕ) : Type 0 where
  pub more : List Bool
  pub added : now ≡ old ++ more
  pub done : List Bool
  pub all : xs ≡ done ++ replicate run v
  pub few : length more ≤ most_bits (length done)
  pub reads : (n : ℕ) (rest : List Bool) → run_string code (length done + suc n) (more ++ rest) ≡ with_front done (run_on code n v rest)

-- the values xs were taken, and what was written of them is `now` behind `old`
abbrev pub Holds : RunForm → List Bool → List Bool → List Bool → Option Run → Type 0
Holds code old now xs None = (xs ≡ []) × (now ≡ old)
Holds code old now xs (Some run) = IsOpen code old now xs run.value run.length

-- a run that can be written
abbrev pub IsRun : RunForm → Run → Type 0
IsRun code run = (0 < run.length) × (run.length ≤ longest code)

-- a value goes on with the run or changes it, as a short string wants
abbrev pub Fits : RunForm → Run → Bool → Type 0
Fits code run v = code ≡ Short → run.value ≡ v → run.length < 30
