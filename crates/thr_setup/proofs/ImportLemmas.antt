-- The trees of the setup of streams that are made here: how they are made, that a setup header can hold them, their codes, and that each holds all tokens.
-- The functions of src/trees.rt and `import_setup` cite these.
use Rattle.std.proofs.Common.{◌≡◌, ℕ, zero, suc, ◌+◌, ◌-◌, ◌*◌, ◌/◌, ◌%◌, ◌^◌, ◌<◌, ◌≤◌, Bool, true, false, cond, nat_eq, nat_lt, List, [], ◌∷◌, ◌++◌, map, length, take, drop, All, IsSome, Option, Some, None, refl, ap, sym, ◌∙◌, arith, get_or, subst, rules}
use Rattle.std.proofs.Math.Nat.{pow-suc}
use Rattle.std.specs.Prelude.{is_some}
use Rattle.std.specs.List.{range_with_len}
use Rattle.std.proofs.lemmas.Bool.{ltb-true}
use Rattle.std.proofs.lemmas.List.Elements.{All-nil, All-cons}
use Rattle.std.proofs.lemmas.List.{map-append}
use Rattle.std.proofs.lemmas.List.FromFn.{map-range_with_len_more, get_or-map-range_with_len, length-map-range_with_len, get_or-range_with_len, length-range_with_len}
use Rattle.thr_huff.specs.declared.tree.Tree.{Tree}
use Rattle.thr_huff.specs.CodeTree.{CodeTree, Token, Fork, code_tree}
use Rattle.thr_huff.specs.Codes.{Codes, codes_of, codes_at, code_of}
use Rattle.thr_huff.specs.Trees.{IsTree, IsForest}
use Rattle.thr_huff.specs.Rows.{HasAllTokens, IsFullRow}
use Rattle.vid_base.specs.Bits.{digits}
use Rattle.thr_setup.specs.Tables.{in_order, by_rank_1, by_rank_2, by_rank_3}
use Rattle.thr_setup.specs.ImportTrees.{code_of_rank, ranked_codes, plain_codes, import_codes, counting_up, ranked_tree, import_tree, import_forest}

-- half of the tokens on either side
pub counting : (width half : ℕ) (tokens : List ℕ) → 0 < width → length tokens ≡ 2 ^ width → half ≡ length tokens / 2
    → counting_up width tokens ≡ Fork (counting_up (width - 1) (take half tokens)) (counting_up (width - 1) (drop half tokens))
unfolding counting_up
counting zero half tokens some long e = absurd (omega arith)
counting (suc n) half tokens some long e =
    let back : suc n - 1 ≡ n = omega arith in
    let mid : half ≡ 2 ^ n = omega (arith, pow-suc 2 n) in
    rw (back, mid) refl

-- so many are left on either side
pub halves : (width half : ℕ) → 0 < width → half ≡ 2 ^ width / 2 → (half ≡ 2 ^ (width - 1)) × (2 ^ width - half ≡ 2 ^ (width - 1))
halves zero half some e = absurd (omega arith)
halves (suc n) half some e =
    let back : suc n - 1 ≡ n = omega arith in
    rw back (omega (arith, pow-suc 2 n), omega (arith, pow-suc 2 n))

-- the codes of the trees
codes-1 : codes_of (ranked_tree by_rank_1) ≡ ranked_codes by_rank_1
unfolding codes_of ranked_tree counting_up ranked_codes code_of_rank digits by_rank_1
codes-1 = refl

codes-2 : codes_of (ranked_tree by_rank_2) ≡ ranked_codes by_rank_2
unfolding codes_of ranked_tree counting_up ranked_codes code_of_rank digits by_rank_2
codes-2 = refl

codes-3 : codes_of (ranked_tree by_rank_3) ≡ ranked_codes by_rank_3
unfolding codes_of ranked_tree counting_up ranked_codes code_of_rank digits by_rank_3
codes-3 = refl

codes-plain : codes_of (counting_up 5 in_order) ≡ plain_codes
unfolding codes_of counting_up plain_codes digits
codes-plain = refl

-- the codes of the tree of a number
codes_of-import_tree : (number : ℕ) → codes_of (import_tree number) ≡ import_codes number
unfolding import_tree import_codes
codes_of-import_tree number = go (nat_eq number 1) (nat_eq number 2) (nat_eq number 3)
  where
    go : (a b c : Bool) → codes_of (cond a (ranked_tree by_rank_1) (cond b (ranked_tree by_rank_2) (cond c (ranked_tree by_rank_3) (counting_up 5 in_order)))) ≡ cond a (ranked_codes by_rank_1) (cond b (ranked_codes by_rank_2) (cond c (ranked_codes by_rank_3) plain_codes))
    go true b c = codes-1
    go false true c = codes-2
    go false false true = codes-3
    go false false false = codes-plain

-- a test of each element
abbrev every : {X : Type 0} → (X → Bool) → List X → Bool
every p [] = true
every p (x ∷ xs) = cond (p x) (every p xs) false

all_every : {X : Type 0} (p : X → Bool) (P : X → Type 0) (xs : List X) → ((x : X) → p x ≡ true → P x) → every p xs ≡ true → All P xs
all_every p P [] h e = All-nil P
all_every p P (x ∷ xs) h e = go (p x) refl e (all_every p P xs h)
  where
    go : (b : Bool) → p x ≡ b → cond b (every p xs) false ≡ true → (every p xs ≡ true → All P xs) → All P (x ∷ xs)
    go true here more others = All-cons P x xs (h x here) (others more)
    go false here more others = cc

-- codes that a setup header can hold
record Sound (codes : Codes) : Type 0 where
  few : length codes ≤ 32
  short : All (λ code. length code.0 ≤ 32) codes
  tokens : All (λ code. code.1 < 32) codes

sound_of : (codes : Codes) → nat_lt (length codes) 33 ≡ true → every (λ code. nat_lt (length code.0) 33) codes ≡ true → every (λ code. nat_lt code.1 32) codes ≡ true → Sound codes
sound_of codes few short tokens = record {
  few = omega (arith, ltb-true (length codes) 33 few);
  short = all_every (λ (code : List Bool × ℕ). nat_lt (length code.0) 33) (λ code. length code.0 ≤ 32) codes (λ code e. omega (arith, ltb-true (length code.0) 33 e)) short;
  tokens = all_every (λ (code : List Bool × ℕ). nat_lt code.1 32) (λ code. code.1 < 32) codes (λ code e. ltb-true code.1 32 e) tokens;
}

sound-1 : Sound (ranked_codes by_rank_1)
unfolding ranked_codes code_of_rank digits by_rank_1
sound-1 = sound_of (ranked_codes by_rank_1) refl refl refl

sound-2 : Sound (ranked_codes by_rank_2)
unfolding ranked_codes code_of_rank digits by_rank_2
sound-2 = sound_of (ranked_codes by_rank_2) refl refl refl

sound-3 : Sound (ranked_codes by_rank_3)
unfolding ranked_codes code_of_rank digits by_rank_3
sound-3 = sound_of (ranked_codes by_rank_3) refl refl refl

sound-plain : Sound plain_codes
unfolding plain_codes digits
sound-plain = sound_of plain_codes refl refl refl

sound : (number : ℕ) → Sound (import_codes number)
unfolding import_codes
sound number = go (nat_eq number 1) (nat_eq number 2) (nat_eq number 3)
  where
    go : (a b c : Bool) → Sound (cond a (ranked_codes by_rank_1) (cond b (ranked_codes by_rank_2) (cond c (ranked_codes by_rank_3) plain_codes)))
    go true b c = sound-1
    go false true c = sound-2
    go false false true = sound-3
    go false false false = sound-plain

is_import_tree : (number : ℕ) → IsTree (import_tree number)
is_import_tree number =
    let e = codes_of-import_tree number in
    record { few = rw e (sound number).few; short = rw e (sound number).short; tokens = rw e (sound number).tokens }

-- a setup header can hold these trees
pub is_import_forest : (forest : List CodeTree) → forest ≡ import_forest → IsForest forest
unfolding import_forest
is_import_forest forest e = record {
  count = rw e (length-map-range_with_len (λ hti. import_tree (hti % 16)) 0 80);
  each = rw e
      (λ k d h.
      let inside : k < 80 = omega (arith, length-map-range_with_len (λ hti. import_tree (hti % 16)) 0 80) in
      rw (get_or-map-range_with_len (λ hti. import_tree (hti % 16)) 0 80 k k d inside (omega arith)) (is_import_tree (k % 16)));
}

-- the codes of each tree
pub codes_at_import : (forest : List CodeTree) (hti : ℕ) → forest ≡ import_forest → hti < 80 → codes_at forest hti ≡ import_codes (hti % 16)
unfolding import_forest
codes_at_import forest hti e h =
    rw e (ap codes_of (get_or-map-range_with_len (λ n. import_tree (n % 16)) 0 80 hti hti (Token 0) h (omega arith)) ∙ codes_of-import_tree (hti % 16))

-- codes that lead to each token of the list of all lead to all
some_true : {X : Type 0} (o : Option X) → is_some o ≡ true → IsSome o
some_true None e = cc
some_true (Some x) e = search rules

has_all : (codes : Codes) → every (λ t. is_some (code_of codes t)) in_order ≡ true → HasAllTokens codes
has_all codes each = λ token h.
    let all : All (λ t. IsSome (code_of codes t)) in_order = all_every (λ t. is_some (code_of codes t)) (λ t. IsSome (code_of codes t)) in_order (λ t e. some_true (code_of codes t) e) each in
    let there : get_or in_order token 0 ≡ token = get_or-range_with_len 0 32 token 0 h ∙ omega arith in
    subst (λ (t : ℕ). IsSome (code_of codes t)) there (all token 0 (omega (arith, length-range_with_len 0 32)))

has_all-1 : HasAllTokens (ranked_codes by_rank_1)
unfolding ranked_codes code_of_rank digits by_rank_1 code_of
has_all-1 = has_all (ranked_codes by_rank_1) refl

has_all-2 : HasAllTokens (ranked_codes by_rank_2)
unfolding ranked_codes code_of_rank digits by_rank_2 code_of
has_all-2 = has_all (ranked_codes by_rank_2) refl

has_all-3 : HasAllTokens (ranked_codes by_rank_3)
unfolding ranked_codes code_of_rank digits by_rank_3 code_of
has_all-3 = has_all (ranked_codes by_rank_3) refl

has_all-plain : HasAllTokens plain_codes
unfolding plain_codes digits code_of
has_all-plain = has_all plain_codes refl

-- the codes of a number lead to all tokens
import-has_all : (number : ℕ) → HasAllTokens (import_codes number)
unfolding import_codes
import-has_all number = go (nat_eq number 1) (nat_eq number 2) (nat_eq number 3)
  where
    go : (a b c : Bool) → HasAllTokens (cond a (ranked_codes by_rank_1) (cond b (ranked_codes by_rank_2) (cond c (ranked_codes by_rank_3) plain_codes)))
    go true b c = has_all-1
    go false true c = has_all-2
    go false false true = has_all-3
    go false false false = has_all-plain

-- the trees of each number are a full row
pub full_row_import : (forest : List CodeTree) (number : ℕ) → forest ≡ import_forest → number < 16 → IsFullRow forest number
full_row_import forest number e h = λ group g.
    let same : (16 * group + number) % 16 ≡ number = omega arith in
    let codes : codes_at forest (16 * group + number) ≡ import_codes number = codes_at_import forest (16 * group + number) e (omega arith) ∙ ap import_codes same in
    rw codes (import-has_all number)

-- one tree more
pub more_trees : (trees new : List Tree) (tree : Tree) (n : ℕ) → new ≡ trees ++ tree ∷ [] → code_tree tree ≡ import_tree (n % 16)
    → map code_tree trees ≡ map (λ hti. import_tree (hti % 16)) (range_with_len 0 n) → map code_tree new ≡ map (λ hti. import_tree (hti % 16)) (range_with_len 0 (n + 1))
more_trees trees new tree n e made before =
    let last : map code_tree trees ++ code_tree tree ∷ [] ≡ map (λ hti. import_tree (hti % 16)) (range_with_len 0 n) ++ import_tree (n % 16) ∷ [] = rw (before, made) refl in
    ap (map code_tree) e ∙ map-append code_tree trees (tree ∷ []) ∙ last ∙ sym (map-range_with_len_more (λ hti. import_tree (hti % 16)) 0 n n (omega arith))
