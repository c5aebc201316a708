-- Inputs by their names, and the first of a list. Commands cite these.
use Rattle.std.proofs.Common.{◌≡◌, ℕ, suc, ◌+◌, length, All, arith, List, [], ◌∷◌, inl, inr, Option, Some, None, IsSome, ap, refl, sym, ◌∙◌}
use Rattle.std.specs.Option.{option_map}
use Rattle.std.proofs.lemmas.List.Elements.{All-head, All-tail}
use Rattle.vid_desk.specs.Meaning.{File, Meaning, place_of, bytes_at}
use Rattle.cut_desk.specs.Inputs.{contents, First, IsThere, IsAbsent, IsMissing, IsTooLong, IsWithin, IsOverlong, Limited}
use Rattle.cut_desk.specs.Outputs.{Looks, Makes}

-- the bytes of the input that was found
pub contents_is : (files : List File) (name : List ℕ) (id : ℕ) (bytes : List ℕ) → place_of files name ≡ Some id → bytes ≡ bytes_at files id → contents files name ≡ Some bytes
contents_is files name id bytes place e = ap (option_map (λ i. bytes_at files i)) place ∙ ap (λ b. Some b) (sym e)

-- an input that has bytes is there
pub not_absent : (files : List File) (name bytes : List ℕ) → contents files name ≡ Some bytes → IsAbsent files name → ⊥
not_absent files name bytes there none = let nothing : contents files name ≡ None = ap (option_map (λ id. bytes_at files id)) none in cc

-- it has a place
pub there_of : (files : List File) (name bytes : List ℕ) → contents files name ≡ Some bytes → IsThere files name
there_of files name bytes there = go (place_of files name) there
  where
    go : (place : Option ℕ) → option_map (λ id. bytes_at files id) place ≡ Some bytes → IsSome place
    go None h = cc
    go (Some id) h = refl

-- an input is not there and absent at once
pub there_or_absent : (files : List File) (name : List ℕ) → IsThere files name → IsAbsent files name → ⊥
there_or_absent files name there none = let some = rw none at there in cc

-- a list has one first, where nothing is good and bad at once
pub one_first : {A : Type 0} (good bad : A → Type 0) → ((x : A) → good x → bad x → ⊥) → (n : ℕ) (xs : List A) (a b : ℕ) → First good bad n xs a → First good bad n xs b → a ≡ b
one_first good bad apart n [] a b h k = absurd h
one_first good bad apart n (x ∷ xs) a b h k = elim h [
  | inl first ↦ elim k [
    | inl second ↦ first.0 ∙ sym second.0
    | inr second ↦ absurd (apart x second.0 first.1)
  ]
  | inr first ↦ elim k [
    | inl second ↦ absurd (apart x first.0 second.1)
    | inr second ↦ one_first good bad apart (suc n) xs a b first.1 second.1
  ]
]

-- nor is one bad where all are good
pub none_first : {A : Type 0} (good bad : A → Type 0) → ((x : A) → good x → bad x → ⊥) → (n : ℕ) (xs : List A) (a : ℕ) → All good xs → First good bad n xs a → ⊥
none_first good bad apart n [] a all first = absurd first
none_first good bad apart n (x ∷ xs) a all first = elim first [
  | inl here ↦ apart x (All-head good x xs all) here.1
  | inr later ↦ none_first good bad apart (suc n) xs a (All-tail good x xs all) later.1
]

-- an input is not within its limit and above it at once, and has one size
within_or_long : (files : List File) (size : ℕ) (input : Limited) → IsWithin files input → IsOverlong files size input → ⊥
within_or_long files size input within long =
    let same : within.0 ≡ long.0 = cc (within.1, long.1) in
    omega (arith, within.2, long.3, ap length same)

one_size : (files : List File) (size other : ℕ) (input : Limited) → IsOverlong files size input → IsOverlong files other input → size ≡ other
one_size files size other input long next =
    let same : long.0 ≡ next.0 = cc (long.1, next.1) in
    omega (arith, long.2, next.2, ap length same)

-- one input is the first that is not there
pub one_missing : (files : List File) (names : List (List ℕ)) (a b : ℕ) → IsMissing files names a → IsMissing files names b → a ≡ b
one_missing files names a b h k = one_first (IsThere files) (IsAbsent files) (λ name there absent. there_or_absent files name there absent) 1 names a b h k

-- where all are there, none is
pub none_missing : (files : List File) (names : List (List ℕ)) (a : ℕ) → All (IsThere files) names → IsMissing files names a → ⊥
none_missing files names a all missing = none_first (IsThere files) (IsAbsent files) (λ name there absent. there_or_absent files name there absent) 1 names a all missing

-- one input is the first that is too long, and has one size
one_long : (files : List File) (n : ℕ) (inputs : List Limited) (a b size other : ℕ) → First (IsWithin files) (IsOverlong files size) n inputs a → First (IsWithin files) (IsOverlong files other) n inputs b
    → (a ≡ b) × (size ≡ other)
one_long files n [] a b size other h k = absurd h
one_long files n (x ∷ xs) a b size other h k = elim h [
  | inl first ↦ elim k [
    | inl second ↦ (first.0 ∙ sym second.0, one_size files size other x first.1 second.1)
    | inr second ↦ absurd (within_or_long files size x second.0 first.1)
  ]
  | inr first ↦ elim k [
    | inl second ↦ absurd (within_or_long files other x first.0 second.1)
    | inr second ↦ one_long files (suc n) xs a b size other first.1 second.1
  ]
]

pub one_too_long : (files : List File) (inputs : List Limited) (a b size other : ℕ) → IsTooLong files inputs a size → IsTooLong files inputs b other → (a ≡ b) × (size ≡ other)
one_too_long files inputs a b size other h k = one_long files 1 inputs a b size other h.1 k.1

-- where all are within their limits, none is
pub none_too_long : (files : List File) (inputs : List Limited) (a size : ℕ) → All (IsWithin files) inputs → IsTooLong files inputs a size → ⊥
none_too_long files inputs a size all long = none_first (IsWithin files) (IsOverlong files size) (λ input within over. within_or_long files size input within over) 1 inputs a all long.1

-- what was made since reads is made since they began
pub makes_since : (old mid new : Meaning) (name bytes : List ℕ) → Looks old mid → Makes mid new name bytes → Makes old new name bytes
makes_since old mid new name bytes looks makes =
    let outputs : mid.outputs ≡ old.outputs = ap {A = Meaning} (λ m. m.outputs) looks in
    let named : mid.named ≡ old.named = ap {A = Meaning} (λ m. m.named) looks in
    record { outputs = rw (← outputs) makes.outputs; asked_for = rw (← named) makes.asked_for }
