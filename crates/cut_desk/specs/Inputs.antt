-- What the inputs of a command hold, by their names, and the first of them that is refused (own).
use Rattle.std.specs.Prelude.{◌≡◌, ℕ, suc, ◌^◌, ◌<◌, ◌≤◌, List, [], ◌∷◌, length, Option, Some, None, IsSome, ◌⊎◌, All}
use Rattle.std.specs.Option.{option_map}
use Rattle.vid_desk.specs.Meaning.{File, place_of, bytes_at}

-- the bytes of the input of that name
abbrev pub contents : List File → List ℕ → Option (List ℕ)
contents files name = option_map (λ id. bytes_at files id) (place_of files name)

-- an input has that name
abbrev pub IsThere : List File → List ℕ → Type 0
IsThere files name = IsSome (place_of files name)

-- no input has that name
abbrev pub IsAbsent : List File → List ℕ → Type 0
IsAbsent files name = place_of files name ≡ None

-- the first of a list, counted from n on, that is bad: those before it are good
abbrev pub First : {A : Type 0} → (A → Type 0) → (A → Type 0) → ℕ → List A → ℕ → Type 0
First good bad n [] number = ⊥
First good bad n (x ∷ xs) number = ((number ≡ n) × bad x) ⊎ (good x × First good bad (suc n) xs number)

-- the first of these names, counted from 1 in the order of the words, that is not there
abbrev pub IsMissing : List File → List (List ℕ) → ℕ → Type 0
IsMissing files names input = First (IsThere files) (IsAbsent files) 1 names input

-- the name of an input, and the most bytes that it may have
pub record Limited : Type 0 where
  pub name : List ℕ
  pub most : ℕ

-- the most bytes of a list
abbrev pub longest_list : ℕ
longest_list = 2 ^ 20

-- the input is there and has no more bytes than it may have
abbrev pub IsWithin : List File → Limited → Type 0
IsWithin files input = (bytes : List ℕ) × (contents files input.name ≡ Some bytes) × (length bytes ≤ input.most)

-- the input is there and has so many bytes, which are too many
abbrev pub IsOverlong : List File → ℕ → Limited → Type 0
IsOverlong files size input = (bytes : List ℕ) × (contents files input.name ≡ Some bytes) × (size ≡ length bytes) × (input.most < length bytes)

-- all inputs are there, and the first of them, counted from 1 in the order of the words, that has too many bytes has so many
abbrev pub IsTooLong : List File → List Limited → ℕ → ℕ → Type 0
IsTooLong files inputs input size = All (λ limited. IsThere files limited.name) inputs × First (IsWithin files) (IsOverlong files size) 1 inputs input
