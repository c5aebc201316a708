-- From the planes of a frame to its values in coded order. The public calls cite these.
use Rattle.std.proofs.Common.{◌≡◌, ◌∙◌, ℕ, ◌+◌, ◌*◌, ◌/◌, ◌<◌, ◌≤◌, Bool, true, false, List, [], ◌∷◌, length, get_or, set, map, Option, Some, None, All, ℤ, pos, unsigned_abs, slice_get, refl, sym, ap, subst, inl, inr, arith}
use Rattle.std.specs.List.{range_with_len}
use Rattle.std.proofs.lemmas.Bool.{cases_eq, cases_lt, false≢true}
use Rattle.std.proofs.lemmas.List.{ext_get_or, get_or-map, get_or_past, length-map, set-get_or, set-set}
use Rattle.std.proofs.lemmas.List.Elements.{All-map}
use Rattle.std.proofs.lemmas.Nat.{div-mul-add, mod-mul-add, mul-add-lt}
use Rattle.std.proofs.lemmas.Option.{slice_get-get_or}
use Rattle.vid_base.specs.declared.shape.Shape.{Shape}
use Rattle.vid_geom.specs.declared.block.Block.{Block}
use Rattle.vid_geom.specs.CodedOrder.{IsBlock, block_columns, block_rows, order_of, place_of, plane_blocks}
use Rattle.vid_geom.proofs.OrderLemmas.{block_at, place_at}
use Rattle.thr_dc.specs.Blocks.{Coded, IsSmall}
use Rattle.thr_dc.specs.Frames.{ChangesDc, IsWithin, dc_at, plane_of, raster_block, raster_place, with_dc, with_planes}
use Rattle.thr_dc.specs.Walks.{IsShort, Rewrites, RewritesAll}
use Rattle.thr_dc.proofs.LawLemmas.{entry_within}
use Rattle.thr_dc.proofs.PlaneLemmas.{block_in_plane}
use Rattle.thr_dc.proofs.WalkLemmas.{changes_more, changes_none}

-- a block stands in its plane at its place in raster order
pub at_raster_place : (s : Shape) (flags : List Bool) (kinds : List ℕ) (values : List (List ℤ)) (b : Block) → IsBlock s b → get_or (plane_of s flags kinds values b.pli) (raster_place s b) None ≡ dc_at flags kinds values (place_of s b)
unfolding raster_place raster_block
at_raster_place s flags kinds values b is =
    let w = block_columns s b.pli in
    let within : b.row * w + b.col < plane_blocks s b.pli = mul-add-lt b.row w b.col (block_rows s b.pli) is.2 is.1 in
    block_in_plane s flags kinds values b.pli (b.row * w + b.col) within
    ∙ ap (λ col. dc_at flags kinds values (place_of s (record { pli = b.pli; col = col; row = (b.row * w + b.col) / w }))) (mod-mul-add b.row w b.col is.1)
    ∙ ap (λ row. dc_at flags kinds values (place_of s (record { pli = b.pli; col = b.col; row = row }))) (div-mul-add b.row w b.col is.1)

-- an entry whose DC value alone may have changed
same_entry : (flags : List Bool) (kinds : List ℕ) (old new : List (List ℤ)) (place : ℕ) → ChangesDc flags old new → with_dc (dc_at flags kinds new place) (get_or old place []) ≡ get_or new place []
unfolding dc_at
same_entry flags kinds old new place changes = go (get_or flags place false) refl
  where
    go : (flag : Bool) → get_or flags place false ≡ flag → with_dc (dc_at flags kinds new place) (get_or old place []) ≡ get_or new place []
    go true e = rw e (sym (changes.only_dc place))
    go false e = rw e (sym (changes.uncoded place e))

-- the block that stands at a coded place
pub record Stands (s : Shape) (place : ℕ) (b : Block) : Type 0 where
  pub is : IsBlock s b
  pub at : place_of s b ≡ place

pub standing : (s : Shape) (place : ℕ) (d : Block) → place < length (order_of s) → Stands s place (get_or (order_of s) place d)
standing s place d h =
    let b = get_or (order_of s) place d in
    let there : slice_get (order_of s) place ≡ Some b = slice_get-get_or (order_of s) place d h in
    record { is = block_at s place b there; at = place_at s place b there }

-- the values are those of the planes
pub rewritten : (f : ℕ → List (Option Coded) → List (Option Coded)) (s : Shape) (flags : List Bool) (kinds : List ℕ) (old new : List (List ℤ)) → length old ≡ length (order_of s)
    → ((pli : ℕ) → pli < 3 → plane_of s flags kinds new pli ≡ f (block_columns s pli) (plane_of s flags kinds old pli)) → ChangesDc flags old new → new ≡ with_planes f s flags kinds old
unfolding with_planes
rewritten f s flags kinds old new long planes changes =
    let none : Block = record { pli = 0; col = 0; row = 0 } in
    let entry : Block → List ℤ = λ b. with_dc (get_or (f (block_columns s b.pli) (plane_of s flags kinds old b.pli)) (raster_place s b) None) (get_or old (place_of s b) []) in
    ext_get_or [] new (map entry (order_of s)) (changes.long ∙ long ∙ sym (length-map (order_of s) entry))
    (λ place h.
    let within : place < length (order_of s) = omega (arith, changes.long) in
    let b = get_or (order_of s) place none in
    let stands = standing s place none within in
    let plane = planes b.pli stands.is.0 in
    let block : get_or (f (block_columns s b.pli) (plane_of s flags kinds old b.pli)) (raster_place s b) None ≡ dc_at flags kinds new place =
    ap (λ l. get_or l (raster_place s b) None) (sym plane) ∙ at_raster_place s flags kinds new b stands.is ∙ ap (dc_at flags kinds new) stands.at in
    sym (get_or-map entry (order_of s) place none [] within
    ∙ ap (λ x. with_dc x (get_or old (place_of s b) [])) block ∙ ap (λ n. with_dc (dc_at flags kinds new place) (get_or old n [])) stands.at ∙ same_entry flags kinds old new place changes))

-- what may change one way may change the other way
pub changes_back : (flags : List Bool) (old new : List (List ℤ)) → ChangesDc flags old new → ChangesDc flags new old
changes_back flags old new changes = record {
  long = sym changes.long;
  only_dc = λ place.
      let was = get_or old place [] in
      let value = get_or was 0 (pos 0) in
      sym (ap (λ entry. set entry 0 value) (changes.only_dc place) ∙ set-set was 0 (get_or (get_or new place []) 0 (pos 0)) value ∙ set-get_or was 0 (pos 0));
  uncoded = λ place no. sym (changes.uncoded place no);
}

-- the planes before one become what f makes of them, and the others stay
pub record RewritesBefore (f : ℕ → List (Option Coded) → List (Option Coded)) (s : Shape) (flags : List Bool) (kinds : List ℕ) (past : ℕ) (old new : List (List ℤ)) : Type 0 where
  pub done : (pli : ℕ) → pli < 3 → pli < past → plane_of s flags kinds new pli ≡ f (block_columns s pli) (plane_of s flags kinds old pli)
  pub short : (pli : ℕ) → pli < 3 → pli < past → All IsShort (plane_of s flags kinds old pli)
  pub ahead : (pli : ℕ) → pli < 3 → past ≤ pli → plane_of s flags kinds new pli ≡ plane_of s flags kinds old pli
  pub changes : ChangesDc flags old new

pub planes_none : (f : ℕ → List (Option Coded) → List (Option Coded)) (s : Shape) (flags : List Bool) (kinds : List ℕ) (old : List (List ℤ)) → RewritesBefore f s flags kinds 0 old old
planes_none f s flags kinds old = record { done = λ pli h l. absurd (omega arith); short = λ pli h l. absurd (omega arith); ahead = λ pli h l. refl; changes = changes_none flags old }

pub planes_more : (f : ℕ → List (Option Coded) → List (Option Coded)) (s : Shape) (flags : List Bool) (kinds : List ℕ) (past : ℕ) (old now new : List (List ℤ)) → past < 3 → RewritesBefore f s flags kinds past old now → Rewrites f s flags kinds past now new
    → RewritesBefore f s flags kinds (past + 1) old new
planes_more f s flags kinds past old now new h before here = record {
  done = λ pli p l. elim (cases_eq pli past) as (λ _. plane_of s flags kinds new pli ≡ f (block_columns s pli) (plane_of s flags kinds old pli)) [
    | inl same ↦
        let P : ℕ → Type 0 = λ n. plane_of s flags kinds new n ≡ f (block_columns s n) (plane_of s flags kinds old n) in
        let ahead : plane_of s flags kinds now past ≡ plane_of s flags kinds old past = before.ahead past h (omega arith) in
        subst P (sym same) (here.blocks ∙ ap (f (block_columns s past)) ahead)
    | inr apart ↦ here.rest.others pli p apart ∙ before.done pli p (omega arith)
  ];
  short = λ pli p l. elim (cases_eq pli past) as (λ _. All IsShort (plane_of s flags kinds old pli)) [
    | inl same ↦
        let P : List (Option Coded) → Type 0 = All IsShort in
        let Q : ℕ → Type 0 = λ n. All IsShort (plane_of s flags kinds old n) in
        let ahead : plane_of s flags kinds now past ≡ plane_of s flags kinds old past = before.ahead past h (omega arith) in
        subst Q (sym same) (subst P ahead here.short)
    | inr apart ↦ before.short pli p (omega arith)
  ];
  ahead = λ pli p l. here.rest.others pli p (omega arith) ∙ before.ahead pli p (omega arith);
  changes = changes_more flags old now new before.changes here.rest.changes;
}

pub planes_all : (f : ℕ → List (Option Coded) → List (Option Coded)) (s : Shape) (flags : List Bool) (kinds : List ℕ) (past : ℕ) (old new : List (List ℤ)) → 3 ≤ past → RewritesBefore f s flags kinds past old new → RewritesAll f s flags kinds old new
planes_all f s flags kinds past old new h before = record { planes = λ pli p. before.done pli p (omega arith); short = λ pli p. before.short pli p (omega arith); changes = before.changes }

dc_within : (n : ℕ) (flags : List Bool) (kinds : List ℕ) (values : List (List ℤ)) (place : ℕ) → IsWithin n flags values → IsSmall n (dc_at flags kinds values place)
unfolding dc_at
dc_within n flags kinds values place within = go (get_or flags place false) refl
  where
    go : (flag : Bool) → get_or flags place false ≡ flag → IsSmall n (dc_at flags kinds values place)
    go true e = rw e (within place e)
    go false e = rw e tt

-- where the values of a frame are small, so are those of a plane
pub plane_within : (n : ℕ) (s : Shape) (flags : List Bool) (kinds : List ℕ) (values : List (List ℤ)) (pli : ℕ) → IsWithin n flags values → All (IsSmall n) (plane_of s flags kinds values pli)
unfolding plane_of
plane_within n s flags kinds values pli within =
    All-map (IsSmall n) (λ k. dc_at flags kinds values (place_of s (raster_block s pli k))) (range_with_len 0 (plane_blocks s pli)) (λ k d h. dc_within n flags kinds values (place_of s (raster_block s pli (get_or (range_with_len 0 (plane_blocks s pli)) k d))) within)

-- a place that is coded is one of the frame
coded_below : (flags : List Bool) (place n : ℕ) → length flags ≡ n → get_or flags place false ≡ true → place < n
coded_below flags place n long e = elim (cases_lt place n) [
  | inl within ↦ within
  | inr past ↦ absurd (false≢true (sym (get_or_past flags place false (omega arith)) ∙ e))
]

dc_from : (n : ℕ) (flags : List Bool) (kinds : List ℕ) (values : List (List ℤ)) (place : ℕ) → get_or flags place false ≡ true → IsSmall n (dc_at flags kinds values place) → unsigned_abs (get_or (get_or values place []) 0 (pos 0)) ≤ n
unfolding dc_at
dc_from n flags kinds values place e small = rw e at small

-- where the values of the planes are small, so are those of the frame
pub frame_within : (n : ℕ) (s : Shape) (flags : List Bool) (kinds : List ℕ) (values : List (List ℤ)) → length flags ≡ length (order_of s) → ((pli : ℕ) → pli < 3 → All (IsSmall n) (plane_of s flags kinds values pli)) → IsWithin n flags values
frame_within n s flags kinds values long small place e =
    let none : Block = record { pli = 0; col = 0; row = 0 } in
    let b = get_or (order_of s) place none in
    let stands = standing s place none (coded_below flags place (length (order_of s)) long e) in
    let block : get_or (plane_of s flags kinds values b.pli) (raster_place s b) None ≡ dc_at flags kinds values place = at_raster_place s flags kinds values b stands.is ∙ ap (dc_at flags kinds values) stands.at in
    dc_from n flags kinds values place e (subst (IsSmall n) block (entry_within n (plane_of s flags kinds values b.pli) (raster_place s b) (small b.pli stands.is.0)))

with_dc_within : (n : ℕ) (block : Option Coded) (entry : List ℤ) → IsSmall n block → unsigned_abs (get_or entry 0 (pos 0)) ≤ n → unsigned_abs (get_or (with_dc block entry) 0 (pos 0)) ≤ n
with_dc_within n None entry small h = h
with_dc_within n (Some dc) [] small h = h
with_dc_within n (Some dc) (x ∷ xs) small h = small

-- where small values become small ones, so do those of the frame
pub with_planes_within : (n : ℕ) (f : ℕ → List (Option Coded) → List (Option Coded)) (s : Shape) (flags : List Bool) (kinds : List ℕ) (values : List (List ℤ)) → length flags ≡ length (order_of s)
    → ((pli : ℕ) → pli < 3 → All (IsSmall n) (f (block_columns s pli) (plane_of s flags kinds values pli))) → IsWithin n flags values → IsWithin n flags (with_planes f s flags kinds values)
unfolding with_planes
with_planes_within n f s flags kinds values long small within place e =
    let none : Block = record { pli = 0; col = 0; row = 0 } in
    let entry : Block → List ℤ = λ b. with_dc (get_or (f (block_columns s b.pli) (plane_of s flags kinds values b.pli)) (raster_place s b) None) (get_or values (place_of s b) []) in
    let below = coded_below flags place (length (order_of s)) long e in
    let b = get_or (order_of s) place none in
    let stands = standing s place none below in
    let P : ℕ → Type 0 = λ k. unsigned_abs (get_or (get_or values k []) 0 (pos 0)) ≤ n in
    rw (get_or-map entry (order_of s) place none [] below)
    (with_dc_within n (get_or (f (block_columns s b.pli) (plane_of s flags kinds values b.pli)) (raster_place s b) None) (get_or values (place_of s b) [])
    (entry_within n (f (block_columns s b.pli) (plane_of s flags kinds values b.pli)) (raster_place s b) (small b.pli stands.is.0)) (subst P (sym stands.at) (within place e)))
