-- Forests: 80 trees one behind the other are read back, and tokens that their codes give. The calls of a forest cite these.
use Rattle.std.proofs.Common.{◌≡◌, ◌<◌, ◌+◌, ◌-◌, ℕ, Bool, true, false, cond, nat_eq, List, [], ◌∷◌, ◌++◌, map, length, take, get_or, Option, Some, None, Result, Ok, Err, IfOk, IfSome, subst, refl, ap, sym, ◌∙◌, arith, append_assoc, All}
use Rattle.std.specs.Prelude.{option_map}
use Rattle.std.specs.Option.{option_or}
use Rattle.std.specs.List.{find, flat_map}
use Rattle.std.proofs.lemmas.Bool.{eqb-true}
use Rattle.std.proofs.lemmas.List.{append-nil, length-map, get_or-map, map-append, take_more, length_push}
use Rattle.std.proofs.lemmas.List.Elements.{All-head, All-tail, All-push}
use Rattle.std.proofs.lemmas.Grind.{flat_map-append}
use Rattle.vid_base.specs.declared.fault.Ended.{Ended}
use Rattle.vid_base.specs.declared.fault.PacketFault.{PacketFault}
use Rattle.vid_base.specs.declared.fault.Refusal.{Refusal}
use Rattle.vid_base.specs.declared.fault.Refusal.TheVariants.{Bad, NoMem}
use Rattle.vid_base.specs.Reading.{Taken, GivesOrNoMem}
use Rattle.vid_base.specs.Items.{items, with_front}
use Rattle.vid_base.proofs.ItemLemmas.{items_step, items_fault}
use Rattle.thr_huff.specs.CodeTree.{CodeTree, Token, Fork}
use Rattle.thr_huff.specs.declared.code.Code.{Code}
use Rattle.thr_huff.specs.Codes.{Codes, codes_of, begins_with, token_and_rest, front_code, front_token, code_of, code_bits}
use Rattle.thr_huff.specs.Trees.{tree_at, forest_at, tree_bits, forest_bits, IsTree, IsForest}
use Rattle.thr_huff.proofs.CodeLemmas.{front_token-leaf, front_token-left, front_token-right, code_of-leaf, code_of-branch, find-all, mapped}
use Rattle.thr_huff.proofs.TreeLemmas.{tree_at-tree_bits, fits_levels}

-- a token's first code, with any bits behind it, is read as that token, and leaves these bits
pub front_token-code_of : (tree : CodeTree) (token : ℕ) (bits rest : List Bool) → code_of (codes_of tree) token ≡ Some bits → front_token (codes_of tree) (bits ++ rest) ≡ Some (token, rest)
front_token-code_of (Token held) token bits rest e = go (nat_eq held token) refl (sym (code_of-leaf held token) ∙ e)
  where
    go : (t : Bool) → nat_eq held token ≡ t → cond t (Some []) None ≡ Some bits → front_token (codes_of (Token held)) (bits ++ rest) ≡ Some (token, rest)
    go true h f = let none : [] ≡ bits = cc in rw (← none, ← eqb-true held token h) (front_token-leaf held rest)
    go false h f = cc
front_token-code_of (Fork left right) token bits rest e =
    go (code_of (codes_of left) token) (code_of (codes_of right) token) (sym (code_of-branch left right token) ∙ e)
    (λ c. front_token-code_of left token c rest) (λ c. front_token-code_of right token c rest) refl refl
  where
    go : (a b : Option (List Bool)) → option_or (option_map (λ c. false ∷ c) a) (option_map (λ c. true ∷ c) b) ≡ Some bits
        → ((c : List Bool) → code_of (codes_of left) token ≡ Some c → front_token (codes_of left) (c ++ rest) ≡ Some (token, rest))
        → ((c : List Bool) → code_of (codes_of right) token ≡ Some c → front_token (codes_of right) (c ++ rest) ≡ Some (token, rest))
        → code_of (codes_of left) token ≡ a → code_of (codes_of right) token ≡ b → front_token (codes_of (Fork left right)) (bits ++ rest) ≡ Some (token, rest)
    go (Some c) b f in_left in_right ha hb =
        let there : false ∷ c ≡ bits = cc in
        front_token-left left right (bits ++ rest) (c ++ rest) (ap (λ d. d ++ rest) (sym there)) ∙ in_left c ha
    go None (Some c) f in_left in_right ha hb =
        let there : true ∷ c ≡ bits = cc in
        front_token-right left right (bits ++ rest) (c ++ rest) (ap (λ d. d ++ rest) (sym there)) ∙ in_right c hb
    go None None f in_left in_right ha hb = cc

token_in : Option (ℕ × List Bool) → ℕ
token_in None = 0
token_in (Some found) = found.0

-- a token that stands at the front of bits is one of the tree's
front_token-small : (codes : Codes) (bits left : List Bool) (token : ℕ) → All (λ code. code.1 < 32) codes → front_token codes bits ≡ Some (token, left) → token < 32
unfolding front_token front_code token_in
front_token-small codes bits left token small e =
    let found = mapped (token_and_rest bits) (find (λ code. begins_with code.0 bits) codes) (token, left) e in
    let same : found.0.1 ≡ token = ap (λ (x : ℕ × List Bool). x.0) found.2 in
    rw (← same) (find-all (λ (code : List Bool × ℕ). code.1 < 32) (λ code. begins_with code.0 bits) codes found.0 small found.1)

pub small_token : (result : Result ℕ Ended) (codes : Codes) (bits left : List Bool) → All (λ code. code.1 < 32) codes → Taken result left (front_token codes bits) → IfOk result (λ token. token < 32)
small_token (Ok token) codes bits left small e = front_token-small codes bits left token small e
small_token (Err ended) codes bits left small e = tt

-- what a forest holds at an index
pub tree_in : {X : Type 0} (view : X → CodeTree) (xs : List X) (i : ℕ) (x : X) → x ≡ get_or xs i x → i < length xs → get_or (map view xs) i (Token 0) ≡ view x
tree_in view xs i x e h = get_or-map view xs i x (Token 0) h ∙ ap view (sym e)

pub each_tree : {X : Type 0} (view : X → CodeTree) (xs : List X) (i : ℕ) (x : X) → x ≡ get_or xs i x → i < 80 → IsForest (map view xs) → IsTree (view x)
each_tree view xs i x e h is =
    let size : length xs ≡ 80 = sym (length-map xs view) ∙ is.count in
    let there : i < length xs = omega arith in
    subst IsTree (tree_in view xs i x e there) (is.each i (Token 0) (omega (arith, length-map xs view)))

-- so a code that was found for a token is read as the token
pub read_back : (found : Option Code) (tree : CodeTree) (token : ℕ) → option_map code_bits found ≡ code_of (codes_of tree) token
    → IfSome found (λ code. (rest : List Bool) → front_token (codes_of tree) (code_bits code ++ rest) ≡ Some (token, rest))
read_back None tree token e = tt
read_back (Some code) tree token e = λ rest. front_token-code_of tree token (code_bits code) rest (sym e)

-- trees that were written one behind the other are read
items-forest_bits : (trees : List CodeTree) (rest : List Bool) → All IsTree trees → items (tree_at 33 0) (length trees) (forest_bits trees ++ rest) ≡ Ok (trees, rest)
unfolding items forest_bits
items-forest_bits [] rest each = refl
items-forest_bits (tree ∷ trees) rest each =
    let first : IsTree tree = All-head IsTree tree trees each in
    rw (
      append_assoc (tree_bits tree) (forest_bits trees) rest,
      tree_at-tree_bits tree 33 0 (forest_bits trees ++ rest) (fits_levels tree first) (omega (arith, first.few)),
      items-forest_bits trees rest (All-tail IsTree tree trees each),
    ) refl

pub forest_at-forest_bits : (forest : List CodeTree) (rest : List Bool) → IsForest forest → forest_at (forest_bits forest ++ rest) ≡ Ok (forest, rest)
unfolding forest_at
forest_at-forest_bits forest rest is = let count : 80 ≡ length forest = sym is.count in rw count (items-forest_bits forest rest is.each)

-- what is written for one tree more
pub forest_bits-more : {X : Type 0} (view : X → CodeTree) (old bits : List Bool) (xs : List X) (i : ℕ) (x : X) → x ≡ get_or xs i x → i < length xs → old ≡ bits ++ forest_bits (map view (take i xs))
    → old ++ tree_bits (view x) ≡ bits ++ forest_bits (map view (take (i + 1) xs))
unfolding forest_bits
forest_bits-more view old bits xs i x e h so_far =
    let one_more : take (i + 1) xs ≡ take i xs ++ x ∷ [] = take_more xs i x h ∙ ap (λ y. take i xs ++ y ∷ []) (sym e) in
    let written : flat_map tree_bits (map view (take (i + 1) xs)) ≡ flat_map tree_bits (map view (take i xs)) ++ tree_bits (view x) =
    ap (λ ys. flat_map tree_bits (map view ys)) one_more
    ∙ ap (flat_map tree_bits) (map-append view (take i xs) (x ∷ []))
    ∙ flat_map-append tree_bits (map view (take i xs)) (view x ∷ [])
    ∙ ap (λ b. flat_map tree_bits (map view (take i xs)) ++ b) (append-nil (tree_bits (view x))) in
    ap (λ b. b ++ tree_bits (view x)) so_far ∙ append_assoc bits (flat_map tree_bits (map view (take i xs))) (tree_bits (view x)) ∙ ap (λ b. bits ++ b) (sym written)

-- no tree
pub forest_bits-nil : (old : List Bool) → old ≡ old ++ forest_bits []
unfolding forest_bits
forest_bits-nil old = sym (append-nil old)

-- no tree was read yet
pub read_none : (bits : List Bool) → with_front [] (items (tree_at 33 0) 80 bits) ≡ forest_at bits
unfolding forest_at
read_none bits = go (items (tree_at 33 0) 80 bits)
  where
    go : (read : Result (List CodeTree × List Bool) PacketFault) → with_front [] read ≡ read
    go (Ok trees) = refl
    go (Err fault) = refl

-- one tree more was read
pub read_more : {X : Type 0} (view : X → CodeTree) (xs : List X) (x : X) (bits left : List Bool) (all : Result (List CodeTree × List Bool) PacketFault) → length xs < 80 → tree_at 33 0 bits ≡ Ok (view x, left)
    → with_front (map view xs) (items (tree_at 33 0) (80 - length xs) bits) ≡ all
    → with_front (map view (xs ++ x ∷ [])) (items (tree_at 33 0) (80 - length (xs ++ x ∷ [])) left) ≡ all
read_more view xs x bits left all h read so_far =
    rw (map-append view xs (x ∷ []), length_push xs x) (items_step (tree_at 33 0) (map view xs) 80 (length xs) (view x) bits left h read ∙ so_far)

-- and a setup header can hold it
pub each_more : {X : Type 0} (view : X → CodeTree) (xs : List X) (x : X) → All IsTree (map view xs) → IsTree (view x) → All IsTree (map view (xs ++ x ∷ []))
each_more view xs x each is = rw (map-append view xs (x ∷ [])) (All-push IsTree (map view xs) (view x) each is)

-- a refusal in place of a tree
pub refused_forest : {X Y : Type 0} (view : X → CodeTree) (forest : Y → List CodeTree) (refusal : Refusal) (xs : List X) (bits left : List Bool) → length xs < 80
    → GivesOrNoMem view (Err refusal) left (tree_at 33 0 bits) → GivesOrNoMem forest (Err refusal) left (with_front (map view xs) (items (tree_at 33 0) (80 - length xs) bits))
refused_forest view forest NoMem xs bits left h read = tt
refused_forest view forest (Bad fault) xs bits left h read = items_fault (tree_at 33 0) (map view xs) 80 (length xs) fault bits h read
