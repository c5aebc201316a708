-- Codes of a leaf and of a branch: which one stands at the front of bits, and which one a token has. The walks over a tree cite these.
use Rattle.std.proofs.Common.{◌≡◌, ◌<◌, ◌+◌, ◌*◌, ◌%◌, ◌^◌, ℕ, Bool, true, false, cond, nat_eq, List, [], ◌∷◌, ◌++◌, map, length, Option, Some, None, refl, ap, sym, ◌∙◌, arith, subst, All}
use Rattle.std.specs.Prelude.{option_map}
use Rattle.std.specs.List.{find}
use Rattle.std.specs.Option.{option_or}
use Rattle.std.proofs.lemmas.List.Folds.{find-append}
use Rattle.std.proofs.Math.Pow.{pow-lt}
use Rattle.std.proofs.lemmas.List.Elements.{All-head, All-tail}
use Rattle.vid_base.specs.Bits.{digits, digit}
use Rattle.vid_base.proofs.DigitLemmas.{digits-joined}
use Rattle.thr_huff.specs.CodeTree.{CodeTree, Token, Fork}
use Rattle.thr_huff.specs.Codes.{Codes, codes_of, longer, begins_with, token_and_rest, front_code, front_token, code_of}

-- a search in a list that was made from another
find-map : {X : Type 0} (p q : X → Bool) (f : X → X) (xs : List X) → ((x : X) → p (f x) ≡ q x) → find p (map f xs) ≡ option_map f (find q xs)
find-map p q f [] same = refl
find-map p q f (x ∷ xs) same = rw (same x, find-map p q f xs same) (go (q x))
  where
    go : (t : Bool) → cond t (Some (f x)) (option_map f (find q xs)) ≡ option_map f (cond t (Some x) (find q xs))
    go true = refl
    go false = refl

find-none : {X : Type 0} (p : X → Bool) (f : X → X) (xs : List X) → ((x : X) → p (f x) ≡ false) → find p (map f xs) ≡ None
find-none p f [] never = refl
find-none p f (x ∷ xs) never = rw (never x) (find-none p f xs never)

or_none : {X : Type 0} (o : Option X) → option_or o None ≡ o
or_none None = refl
or_none (Some x) = refl

-- a lone leaf needs no bits
pub front_token-leaf : (token : ℕ) (bits : List Bool) → front_token (codes_of (Token token)) bits ≡ Some (token, bits)
unfolding codes_of front_token front_code begins_with
front_token-leaf token bits = refl

-- no bits lead to no code of a branch
pub front_code-end : (left right : CodeTree) → front_code (codes_of (Fork left right)) [] ≡ None
unfolding codes_of front_code begins_with
front_code-end left right =
    find-append (λ code. begins_with code.0 []) (map (longer false) (codes_of left)) (map (longer true) (codes_of right))
    ∙ rw (find-none (λ code. begins_with code.0 []) (longer false) (codes_of left) (λ code. refl), find-none (λ code. begins_with code.0 []) (longer true) (codes_of right) (λ code. refl)) refl

-- bit 0 leads into the left tree
pub front_code-left : (left right : CodeTree) (bits : List Bool) → front_code (codes_of (Fork left right)) (false ∷ bits) ≡ option_map (longer false) (front_code (codes_of left) bits)
unfolding codes_of front_code begins_with
front_code-left left right bits =
    let test : List Bool × ℕ → Bool = λ code. begins_with code.0 (false ∷ bits) in
    find-append test (map (longer false) (codes_of left)) (map (longer true) (codes_of right))
    ∙ rw (find-map test (λ code. begins_with code.0 bits) (longer false) (codes_of left) (λ code. refl), find-none test (longer true) (codes_of right) (λ code. refl)) (or_none _)

-- bit 1 leads into the right tree
pub front_code-right : (left right : CodeTree) (bits : List Bool) → front_code (codes_of (Fork left right)) (true ∷ bits) ≡ option_map (longer true) (front_code (codes_of right) bits)
unfolding codes_of front_code begins_with
front_code-right left right bits =
    let test : List Bool × ℕ → Bool = λ code. begins_with code.0 (true ∷ bits) in
    find-append test (map (longer false) (codes_of left)) (map (longer true) (codes_of right))
    ∙ rw (find-none test (longer false) (codes_of left) (λ code. refl), find-map test (λ code. begins_with code.0 bits) (longer true) (codes_of right) (λ code. refl)) refl

-- what stands behind a code is the same with one bit more in front
behind : (b : Bool) (bits : List Bool) (found : Option (List Bool × ℕ))
    → option_map (token_and_rest (b ∷ bits)) (option_map (longer b) found) ≡ option_map (token_and_rest bits) found
behind b bits None = refl
behind b bits (Some code) = refl

pub front_token-end : (left right : CodeTree) (bits : List Bool) → bits ≡ [] → front_token (codes_of (Fork left right)) bits ≡ None
unfolding front_token
front_token-end left right bits e = rw (e, front_code-end left right) refl

pub front_token-left : (left right : CodeTree) (bits rest : List Bool) → bits ≡ false ∷ rest → front_token (codes_of (Fork left right)) bits ≡ front_token (codes_of left) rest
unfolding front_token
front_token-left left right bits rest e = rw (e, front_code-left left right rest) (behind false rest (front_code (codes_of left) rest))

pub front_token-right : (left right : CodeTree) (bits rest : List Bool) → bits ≡ true ∷ rest → front_token (codes_of (Fork left right)) bits ≡ front_token (codes_of right) rest
unfolding front_token
front_token-right left right bits rest e = rw (e, front_code-right left right rest) (behind true rest (front_code (codes_of right) rest))

-- the code of a lone leaf
pub code_of-leaf : (held token : ℕ) → code_of (codes_of (Token held)) token ≡ cond (nat_eq held token) (Some []) None
unfolding codes_of code_of
code_of-leaf held token = go (nat_eq held token)
  where
    go : (t : Bool) → option_map (λ (code : List Bool × ℕ). code.0) (cond t (Some ([], held)) None) ≡ cond t (Some []) None
    go true = refl
    go false = refl

bits_in : (b : Bool) (found : Option (List Bool × ℕ)) → option_map (λ (code : List Bool × ℕ). code.0) (option_map (longer b) found) ≡ option_map (λ bits. b ∷ bits) (option_map (λ (code : List Bool × ℕ). code.0) found)
bits_in b None = refl
bits_in b (Some code) = refl

either : (a b : Option (List Bool × ℕ)) → option_map (λ (code : List Bool × ℕ). code.0) (option_or a b) ≡ option_or (option_map (λ (code : List Bool × ℕ). code.0) a) (option_map (λ (code : List Bool × ℕ). code.0) b)
either None b = refl
either (Some a) b = refl

-- the code of a token in a branch: that of the left tree, else that of the right one
pub code_of-branch : (left right : CodeTree) (token : ℕ) → code_of (codes_of (Fork left right)) token ≡ option_or (option_map (λ bits. false ∷ bits) (code_of (codes_of left) token)) (option_map (λ bits. true ∷ bits) (code_of (codes_of right) token))
unfolding codes_of code_of
code_of-branch left right token =
    let test : List Bool × ℕ → Bool = λ code. nat_eq code.1 token in
    ap (option_map (λ (code : List Bool × ℕ). code.0))
    (find-append test (map (longer false) (codes_of left)) (map (longer true) (codes_of right))
    ∙ rw (find-map test test (longer false) (codes_of left) (λ code. refl), find-map test test (longer true) (codes_of right) (λ code. refl)) refl)
    ∙ either (option_map (longer false) (find test (codes_of left))) (option_map (longer true) (find test (codes_of right)))
    ∙ rw (bits_in false (find test (codes_of left)), bits_in true (find test (codes_of right))) refl

-- what a search finds passes its test, and has what all elements have
pub find-test : {X : Type 0} (p : X → Bool) (xs : List X) (x : X) → find p xs ≡ Some x → p x ≡ true
find-test p [] x e = cc
find-test p (y ∷ ys) x e = go (p y) refl (find-test p ys x) e
  where
    go : (t : Bool) → p y ≡ t → (find p ys ≡ Some x → p x ≡ true) → cond t (Some y) (find p ys) ≡ Some x → p x ≡ true
    go true h later f = let same : y ≡ x = cc in ap p (sym same) ∙ h
    go false h later f = later f

pub find-all : {X : Type 0} (P : X → Type 0) (p : X → Bool) (xs : List X) (x : X) → All P xs → find p xs ≡ Some x → P x
find-all P p [] x all e = cc
find-all P p (y ∷ ys) x all e = go (p y) (find-all P p ys x (All-tail P y ys all)) e
  where
    go : (t : Bool) → (find p ys ≡ Some x → P x) → cond t (Some y) (find p ys) ≡ Some x → P x
    go true later f = let same : y ≡ x = cc in subst P same (All-head P y ys all)
    go false later f = later f

-- what an option was made from
pub mapped : {X Y : Type 0} (f : X → Y) (o : Option X) (y : Y) → option_map f o ≡ Some y → (x : X) × (o ≡ Some x) × (f x ≡ y)
mapped f None y e = cc
mapped f (Some x) y e = (x, refl, cc)

-- a token's code is as short as all codes are
pub code_of-short : (n : ℕ) (codes : Codes) (token : ℕ) (bits : List Bool) → All (λ code. length code.0 < n) codes → code_of codes token ≡ Some bits → length bits < n
unfolding code_of
code_of-short n codes token bits short e =
    let found = mapped (λ (code : List Bool × ℕ). code.0) (find (λ code. nat_eq code.1 token) codes) bits e in
    rw (← found.2) (find-all (λ (code : List Bool × ℕ). length code.0 < n) (λ code. nat_eq code.1 token) codes found.0 short found.1)

-- the code of a token in a branch whose left tree has the token
pub code_of-left : (left right : CodeTree) (token : ℕ) (bits : List Bool) → Some bits ≡ code_of (codes_of left) token → Some (false ∷ bits) ≡ code_of (codes_of (Fork left right)) token
code_of-left left right token bits e = rw (code_of-branch left right token, ← e) refl

-- the code of a token in a branch whose left tree has it not
pub code_of-right : (left right : CodeTree) (token : ℕ) → None ≡ code_of (codes_of left) token → option_map (λ bits. true ∷ bits) (code_of (codes_of right) token) ≡ code_of (codes_of (Fork left right)) token
code_of-right left right token e = rw (code_of-branch left right token, ← e) refl

one_digit : (bit : Bool) → digits 1 (digit bit) ≡ bit ∷ []
unfolding digits
one_digit true = refl
one_digit false = refl

-- one more bit in front of a number's digits
pub digits-front : (bit : Bool) (len value : ℕ) → value < 2 ^ len → digits (len + 1) (value + digit bit * 2 ^ len) ≡ bit ∷ digits len value
digits-front bit len value h =
    let size : len + 1 ≡ 1 + len = omega arith in
    let sum : value + digit bit * 2 ^ len ≡ digit bit * 2 ^ len + value = omega arith in
    rw (size, sum) (digits-joined 1 len (digit bit) value h ∙ ap (λ d. d ++ digits len value) (one_digit bit))

-- a bit that is shifted keeps within 32 bits
pub shifted_bit : (bit : Bool) (n : ℕ) → n < 32 → digit bit * 2 ^ n % 4294967296 ≡ digit bit * 2 ^ n
shifted_bit true n h = let small : 2 ^ n < 2 ^ 32 = pow-lt h in omega arith
shifted_bit false n h = omega arith
