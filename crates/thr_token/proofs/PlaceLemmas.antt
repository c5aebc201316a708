-- The blocks at one place: one more block, a fault, the end. `PlaceTrees::scan` and its callers cite these.
use Rattle.std.proofs.Common.{◌≡◌, ◌∙◌, ℕ, suc, ◌+◌, ◌-◌, ◌<◌, ◌≤◌, ◌≢◌, ℤ, Bool, true, false, List, [], ◌∷◌, length, get_or, set, take, drop, Ok, Err, refl, ap, sym, arith}
use Rattle.std.proofs.lemmas.List.{drop_all, drop-set-lt, take_all, take_more, take_more_set}
use Rattle.std.proofs.Math.Dec.{eqb}
use Rattle.std.proofs.Math.Seq.{drop-cons}
use Rattle.std.proofs.lemmas.Bool.{eq-eqb, ne_eqb}
use Rattle.vid_base.specs.declared.fault.PacketFault.{PacketFault}
use Rattle.thr_token.specs.Coefficients.{Progress, Source, at_place, places, turn, unended, unended_at, visit}
use Rattle.thr_token.specs.Standing.{progress, standing}
use Rattle.thr_token.proofs.StandingLemmas.{AreEven, length_standing, standing_at, standing_set, unended_before, unended_behind}

pub here : {X : Type 0} (xs : List X) (b : ℕ) (d : X) → b < length xs → drop b xs ≡ get_or xs b d ∷ drop (b + 1) xs
here xs b d h = let next : suc b ≡ b + 1 = omega arith in drop-cons xs b d h ∙ ap (λ k. get_or xs b d ∷ drop k xs) next

-- one block more
pub place_more : {S : Type 0} (next : Source S) (place b : ℕ) (blocks : List Progress) (d x : Progress) (run rest : ℕ) (source left : S) → b < length blocks
    → visit next place (unended (take b blocks) + unended (drop (b + 1) blocks)) (get_or blocks b d) run source ≡ Ok ((x, rest), left)
    → at_place next place (take (b + 1) (set blocks b x)) (drop (b + 1) (set blocks b x)) rest left ≡ at_place next place (take b blocks) (drop b blocks) run source
unfolding at_place
place_more next place b blocks d x run rest source left h e =
    let behind : drop (b + 1) (set blocks b x) ≡ drop (b + 1) blocks = drop-set-lt (b + 1) blocks b x (omega arith) in
    rw (here blocks b d h, e, take_more_set blocks b x h, behind) refl

-- a fault at a block
pub place_fault : {S : Type 0} (next : Source S) (place b : ℕ) (blocks : List Progress) (d : Progress) (run : ℕ) (source : S) (fault : PacketFault) → b < length blocks
    → visit next place (unended (take b blocks) + unended (drop (b + 1) blocks)) (get_or blocks b d) run source ≡ Err fault
    → at_place next place (take b blocks) (drop b blocks) run source ≡ Err fault
unfolding at_place
place_fault next place b blocks d run source fault h e = rw (here blocks b d h, e) refl

-- no block more
pub place_done : {S : Type 0} (next : Source S) (place b : ℕ) (blocks : List Progress) (run : ℕ) (source : S) → length blocks ≤ b
    → at_place next place (take b blocks) (drop b blocks) run source ≡ Ok ((blocks, run), source)
unfolding at_place
place_done next place b blocks run source h = rw (drop_all b blocks h, take_all b blocks h) refl

-- a block that stands elsewhere
pub place_pass : {S : Type 0} (next : Source S) (place b : ℕ) (blocks : List Progress) (d : Progress) (run : ℕ) (source : S) → b < length blocks
    → (get_or blocks b d).place ≢ place
    → at_place next place (take (b + 1) blocks) (drop (b + 1) blocks) run source ≡ at_place next place (take b blocks) (drop b blocks) run source
unfolding at_place visit
place_pass next place b blocks d run source h e =
    let elsewhere : eqb (get_or blocks b d).place place ≡ false = ne_eqb _ place e in
    rw (here blocks b d h, elsewhere, take_more blocks b d h) refl

visits : {S : Type 0} (next : Source S) (place b : ℕ) (lumas : List Bool) (work : List ℕ) (values : List (List ℤ)) (counts : List ℕ) (run : ℕ) (source : S)
    → AreEven lumas work values counts → b < length lumas → get_or work b 0 ≡ place
    → visit next place (unended (take b (standing lumas work values counts)) + unended (drop (b + 1) (standing lumas work values counts))) (get_or (standing lumas work values counts) b (progress false 0 [] 0)) run source
    ≡ turn next place (unended_at (take b work) + unended_at (drop (b + 1) work)) (progress (get_or lumas b false) place (get_or values b []) (get_or counts b 0)) run source
unfolding visit
visits next place b lumas work values counts run source even h is =
    let there : eqb place place ≡ true = eq-eqb place place refl in
    rw (standing_at lumas work values counts b (progress false 0 [] 0) even h, unended_before lumas work values counts b even, unended_behind lumas work values counts (b + 1) even, is, there) refl

-- a block that stands at the place, in the lists of its parts
pub turn_more : {S : Type 0} (next : Source S) (place b : ℕ) (lumas : List Bool) (work : List ℕ) (values : List (List ℤ)) (counts : List ℕ) (run stands : ℕ) (block : List ℤ) (rest : ℕ) (source left : S)
    → AreEven lumas work values counts → b < length lumas → get_or work b 0 ≡ place
    → turn next place (unended_at (take b work) + unended_at (drop (b + 1) work)) (progress (get_or lumas b false) place (get_or values b []) (get_or counts b 0)) run source
    ≡ Ok ((progress (get_or lumas b false) stands block place, rest), left)
    → at_place next place (take (b + 1) (standing lumas (set work b stands) (set values b block) (set counts b place))) (drop (b + 1) (standing lumas (set work b stands) (set values b block) (set counts b place))) rest left
    ≡ at_place next place (take b (standing lumas work values counts)) (drop b (standing lumas work values counts)) run source
turn_more next place b lumas work values counts run stands block rest source left even h is e =
    let d : Progress = progress false 0 [] 0 in
    let within : b < length (standing lumas work values counts) = omega (arith, length_standing lumas work values counts even) in
    rw (standing_set lumas work values counts b stands block place even h)
    (place_more next place b (standing lumas work values counts) d (progress (get_or lumas b false) stands block place) run rest source left within
    (visits next place b lumas work values counts run source even h is ∙ e))

-- a fault at such a block
pub turn_fault : {S : Type 0} (next : Source S) (place b : ℕ) (lumas : List Bool) (work : List ℕ) (values : List (List ℤ)) (counts : List ℕ) (run : ℕ) (source : S) (fault : PacketFault)
    → AreEven lumas work values counts → b < length lumas → get_or work b 0 ≡ place
    → turn next place (unended_at (take b work) + unended_at (drop (b + 1) work)) (progress (get_or lumas b false) place (get_or values b []) (get_or counts b 0)) run source ≡ Err fault
    → at_place next place (take b (standing lumas work values counts)) (drop b (standing lumas work values counts)) run source ≡ Err fault
turn_fault next place b lumas work values counts run source fault even h is e =
    let d : Progress = progress false 0 [] 0 in
    let within : b < length (standing lumas work values counts) = omega (arith, length_standing lumas work values counts even) in
    place_fault next place b (standing lumas work values counts) d run source fault within (visits next place b lumas work values counts run source even h is ∙ e)

-- a block that does not stand there
pub turn_pass : {S : Type 0} (next : Source S) (place b : ℕ) (lumas : List Bool) (work : List ℕ) (values : List (List ℤ)) (counts : List ℕ) (run : ℕ) (source : S)
    → AreEven lumas work values counts → b < length lumas → get_or work b 0 ≢ place
    → at_place next place (take (b + 1) (standing lumas work values counts)) (drop (b + 1) (standing lumas work values counts)) run source
    ≡ at_place next place (take b (standing lumas work values counts)) (drop b (standing lumas work values counts)) run source
turn_pass next place b lumas work values counts run source even h ne =
    let d : Progress = progress false 0 [] 0 in
    let within : b < length (standing lumas work values counts) = omega (arith, length_standing lumas work values counts even) in
    place_pass next place b (standing lumas work values counts) d run source within (λ e. ne (sym (ap (λ x. x.place) (standing_at lumas work values counts b d even h)) ∙ e))

-- one place more
pub places_more : {S : Type 0} (next : Source S) (place : ℕ) (blocks after : List Progress) (run rest : ℕ) (source left : S) → place < 64 → at_place next place [] blocks run source ≡ Ok ((after, rest), left)
    → places next (64 - (place + 1)) (place + 1) after rest left ≡ places next (64 - place) place blocks run source
unfolding places
places_more next place blocks after run rest source left h e = let more : 64 - place ≡ suc (64 - (place + 1)) = omega arith in rw (more, e) refl

-- a fault at a place
pub places_fault : {S : Type 0} (next : Source S) (place : ℕ) (blocks : List Progress) (run : ℕ) (source : S) (fault : PacketFault) → place < 64 → at_place next place [] blocks run source ≡ Err fault
    → places next (64 - place) place blocks run source ≡ Err fault
unfolding places
places_fault next place blocks run source fault h e = let more : 64 - place ≡ suc (64 - (place + 1)) = omega arith in rw (more, e) refl

-- no place more
pub places_done : {S : Type 0} (next : Source S) (place : ℕ) (blocks : List Progress) (run : ℕ) (source : S) → 64 ≤ place → places next (64 - place) place blocks run source ≡ Ok ((blocks, run), source)
unfolding places
places_done next place blocks run source h = let none : 64 - place ≡ 0 = omega arith in rw none refl
