-- Reading: from a list of bits come a value and the bits behind it, or the first fault (Theora I, 5.2).
use Rattle.std.specs.Prelude.{◌≡◌, ℕ, ◌+◌, ⊤, Bool, List, [], ◌∷◌, length, Option, Some, None, Result, Ok, Err}
use Rattle.vid_base.specs.declared.fault.PacketFault.{PacketFault}
use Rattle.vid_base.specs.declared.fault.PacketFault.TheVariants.{Ended as EndedFault}
use Rattle.vid_base.specs.declared.fault.Refusal.{Refusal}
use Rattle.vid_base.specs.declared.fault.Refusal.TheVariants.{Bad, NoMem}
use Rattle.vid_base.specs.declared.fault.Ended.{Ended}
use Rattle.vid_base.specs.Bits.{take_bits}

-- a reader: how many bits were taken, and those that are left
pub record Reading : Type 0 where
  pub place : ℕ
  pub left : List Bool

-- what was taken and what is left are as many bits as before
abbrev pub SameEnd : Reading → Reading → Type 0
SameEnd old new = new.place + length new.left ≡ old.place + length old.left

-- reading goes on with what was read, and stops at the first fault
infixl 10 ◌>>=◌
abbrev pub ◌>>=◌ : {A B F : Type 0} → Result A F → (A → Result B F) → Result B F
(Ok a) >>= next = next a
(Err fault) >>= next = Err fault

-- the same, where the layer above has a name of its own for the fault
abbrev pub and_then : {A B E F : Type 0} → Result A E → (A → Result B F) → (E → F) → Result B F
and_then (Ok a) next named = next a
and_then (Err fault) next named = Err (named fault)

-- Ended, where fewer bits are there than were asked for
abbrev pub or_ended : Option (ℕ × List Bool) → Result (ℕ × List Bool) PacketFault
or_ended (Some taken) = Ok taken
or_ended None = Err EndedFault

-- a field of n bits
abbrev pub field : ℕ → List Bool → Result (ℕ × List Bool) PacketFault
field n bits = or_ended (take_bits n bits)

-- a bit as a truth value
unfoldable pub one_bit : List Bool → Result (Bool × List Bool) PacketFault
one_bit [] = Err EndedFault
one_bit (bit ∷ bits) = Ok (bit, bits)

-- a call that takes a number of the bits, and what it leaves, stand to the bits as `taken` says
abbrev pub Taken : {E : Type 0} → Result ℕ E → List Bool → Option (ℕ × List Bool) → Type 0
Taken (Ok v) left taken = taken ≡ Some (v, left)
Taken (Err _) left taken = taken ≡ None

-- a call that takes one bit: it was the first, or none was there
abbrev pub TakesBit : {E : Type 0} → Result Bool E → List Bool → List Bool → Type 0
TakesBit (Ok b) left bits = bits ≡ b ∷ left
TakesBit (Err _) left bits = (bits ≡ []) × (left ≡ [])

-- a reader's answer and the bits that it leaves are what the definition reads; view is what clauses see of its value
abbrev pub Gives : {X Y F : Type 0} → (X → Y) → Result X F → List Bool → Result (Y × List Bool) F → Type 0
Gives view (Ok x) left read = read ≡ Ok (view x, left)
Gives view (Err fault) left read = read ≡ Err fault

-- the same of a reader that may also find no memory
abbrev pub GivesOrNoMem : {X Y : Type 0} → (X → Y) → Result X Refusal → List Bool → Result (Y × List Bool) PacketFault → Type 0
GivesOrNoMem view (Ok x) left read = read ≡ Ok (view x, left)
GivesOrNoMem view (Err (Bad fault)) left read = read ≡ Err fault
GivesOrNoMem view (Err NoMem) left read = ⊤

-- the same of a reader whose only fault is that the bits end
abbrev pub GivesOrEnded : {X Y : Type 0} → (X → Y) → Result X Ended → List Bool → Result (Y × List Bool) PacketFault → Type 0
GivesOrEnded view (Ok x) left read = read ≡ Ok (view x, left)
GivesOrEnded view (Err _) left read = read ≡ Err EndedFault

-- a refusal names the fault of what was read, or is want of memory
abbrev pub Refuses : {Y : Type 0} → Refusal → Result Y PacketFault → Type 0
Refuses (Bad fault) read = read ≡ Err fault
Refuses NoMem read = ⊤

-- where no memory was found, what a call works on is as it was
abbrev pub KeptOnNoMem : {X V : Type 0} → Result X Refusal → V → V → Type 0
KeptOnNoMem result old new = result ≡ Err NoMem → new ≡ old
