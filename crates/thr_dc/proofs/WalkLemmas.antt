-- The walk through a plane: what a write changes, and how the blocks so far and the rest make the whole. The functions of the
-- walk cite these.
use Rattle.std.proofs.Common.{◌≡◌, ◌≢◌, ◌∙◌, ℕ, ◌+◌, ◌-◌, ◌*◌, ◌/◌, ◌%◌, ◌<◌, ◌≤◌, Bool, true, false, List, [], ◌∷◌, ◌++◌, length, get_or, set, take, drop, Option, Some, None, All, ℤ, pos, refl, sym, ap, subst, inl, inr, arith, append_assoc}
use Rattle.std.proofs.lemmas.Bool.{cases_eq, false≢true}
use Rattle.std.proofs.lemmas.List.{ext_get_or, length-set, get_or-set_same, get_or-set_other, set-get_or, set-set, take_more, take_more_set, drop_more, drop-set-lt, take_at, take_all, drop_all, set_at, get_or_at, append-nil, length-take-le, drop-drop, get_or-drop, get_or-take, get_or_append_left}
use Rattle.std.proofs.lemmas.List.Elements.{All-cons, All-more}
use Rattle.std.proofs.lemmas.Nat.{div-add-mod'}
use Rattle.vid_base.specs.declared.shape.Shape.{Shape}
use Rattle.vid_geom.specs.declared.block.Block.{Block}
use Rattle.vid_geom.specs.CodedOrder.{IsBlock, block_columns, block_rows, place_of, plane_blocks}
use Rattle.vid_geom.proofs.OrderLemmas.{place_apart}
use Rattle.thr_dc.specs.Blocks.{Coded}
use Rattle.thr_dc.specs.Frames.{ChangesDc, dc_at, plane_of, raster_block}
use Rattle.thr_dc.specs.Prediction.{by_new, by_old, changed}
use Rattle.thr_dc.specs.Walks.{ChangesIn, IsShort}
use Rattle.thr_dc.proofs.PlaneLemmas.{block_in_plane, coded_block, column_below, plane_long, row_below}

-- a place of a plane has a block of the frame
pub raster_is_block : (s : Shape) (pli place : ℕ) → pli < 3 → place < plane_blocks s pli → IsBlock s (raster_block s pli place)
unfolding raster_block
raster_is_block s pli place p h = (p, column_below (block_columns s pli) (block_rows s pli) place h, row_below (block_columns s pli) (block_rows s pli) place h)

-- two places of a plane have two coded places
raster_apart : (s : Shape) (pli i k : ℕ) → pli < 3 → i < plane_blocks s pli → k < plane_blocks s pli → place_of s (raster_block s pli i) ≡ place_of s (raster_block s pli k) → i ≡ k
unfolding raster_block
raster_apart s pli i k p hi hk e =
    let w = block_columns s pli in
    let same = place_apart s (raster_block s pli i) (raster_block s pli k) (raster_is_block s pli i p hi) (raster_is_block s pli k p hk) e in
    let column : i % w ≡ k % w = ap (λ (b : Block). b.col) same in
    let row : i / w ≡ k / w = ap (λ (b : Block). b.row) same in
    sym (div-add-mod' i w) ∙ ap (λ n. n * w + i % w) row ∙ ap (λ n. k / w * w + n) column ∙ div-add-mod' k w

-- and so have places of two planes
planes_apart : (s : Shape) (p q i k : ℕ) → p < 3 → q < 3 → i < plane_blocks s p → k < plane_blocks s q → place_of s (raster_block s p i) ≡ place_of s (raster_block s q k) → p ≡ q
unfolding raster_block
planes_apart s p q i k hp hq hi hk e = ap (λ (b : Block). b.pli) (place_apart s (raster_block s p i) (raster_block s q k) (raster_is_block s p i hp hi) (raster_is_block s q k hq hk) e)

dc_at_other : (flags : List Bool) (kinds : List ℕ) (values : List (List ℤ)) (entry : List ℤ) (at place : ℕ) → place ≢ at → dc_at flags kinds (set values at entry) place ≡ dc_at flags kinds values place
unfolding dc_at
dc_at_other flags kinds values entry at place h = rw (get_or-set_other values at place entry [] h) refl

-- a write to a block of a plane changes this block of it
pub plane_set : (s : Shape) (flags : List Bool) (kinds : List ℕ) (values : List (List ℤ)) (pli place at : ℕ) (value : ℤ) → pli < 3 → place < plane_blocks s pli → at ≡ place_of s (raster_block s pli place) → get_or flags at false ≡ true
    → at < length values → 0 < length (get_or values at [])
    → plane_of s flags kinds (set values at (set (get_or values at []) 0 value)) pli ≡ set (plane_of s flags kinds values pli) place (Some (record { kind = get_or kinds at 0; value = value }))
plane_set s flags kinds values pli place at value p h e flag within some =
    let entry = set (get_or values at []) 0 value in
    let new = set values at entry in
    let block : Option Coded = Some (record { kind = get_or kinds at 0; value = value }) in
    let long = plane_long s flags kinds values pli in
    ext_get_or None (plane_of s flags kinds new pli) (set (plane_of s flags kinds values pli) place block)
    (plane_long s flags kinds new pli ∙ sym (length-set (plane_of s flags kinds values pli) place block ∙ long))
    (λ i l.
    let inside : i < plane_blocks s pli = omega (arith, plane_long s flags kinds new pli) in
    elim (cases_eq i place) as (λ _. get_or (plane_of s flags kinds new pli) i None ≡ get_or (set (plane_of s flags kinds values pli) place block) i None) [
      | inl same ↦
          rw same (
          coded_block s flags kinds new pli place at h e flag
          ∙ ap (λ x. Some (record { kind = get_or kinds at 0; value = get_or x 0 (pos 0) })) (get_or-set_same values at entry [] within)
          ∙ ap (λ x. Some (record { kind = get_or kinds at 0; value = x })) (get_or-set_same (get_or values at []) 0 value (pos 0) some)
          ∙ sym (get_or-set_same (plane_of s flags kinds values pli) place block None (omega (arith, long))))
      | inr apart ↦
          let other : place_of s (raster_block s pli i) ≢ at = λ x. apart (raster_apart s pli i place p inside h (x ∙ e)) in
          block_in_plane s flags kinds new pli i inside
          ∙ dc_at_other flags kinds values entry at (place_of s (raster_block s pli i)) other
          ∙ sym (block_in_plane s flags kinds values pli i inside)
          ∙ sym (get_or-set_other (plane_of s flags kinds values pli) place i block None apart)
    ])

-- and none of another
other_plane : (s : Shape) (flags : List Bool) (kinds : List ℕ) (values : List (List ℤ)) (pli place at : ℕ) (entry : List ℤ) → pli < 3 → place < plane_blocks s pli → at ≡ place_of s (raster_block s pli place)
    → (other : ℕ) → other < 3 → other ≢ pli → plane_of s flags kinds (set values at entry) other ≡ plane_of s flags kinds values other
other_plane s flags kinds values pli place at entry p h e other q apart =
    let new = set values at entry in
    ext_get_or None (plane_of s flags kinds new other) (plane_of s flags kinds values other) (plane_long s flags kinds new other ∙ sym (plane_long s flags kinds values other))
    (λ i l.
    let inside : i < plane_blocks s other = omega (arith, plane_long s flags kinds new other) in
    let elsewhere : place_of s (raster_block s other i) ≢ at = λ x. apart (planes_apart s other pli i place q p inside h (x ∙ e)) in
    block_in_plane s flags kinds new other i inside ∙ dc_at_other flags kinds values entry at (place_of s (raster_block s other i)) elsewhere ∙ sym (block_in_plane s flags kinds values other i inside))

-- a write of the DC value of a coded block
pub changes_set : (flags : List Bool) (values : List (List ℤ)) (at : ℕ) (value : ℤ) → get_or flags at false ≡ true → at < length values → 0 < length (get_or values at [])
    → ChangesDc flags values (set values at (set (get_or values at []) 0 value))
changes_set flags values at value flag within some =
    let entry = set (get_or values at []) 0 value in
    record {
      long = length-set values at entry;
      only_dc = λ place. elim (cases_eq place at) as (λ _. get_or (set values at entry) place [] ≡ set (get_or values place []) 0 (get_or (get_or (set values at entry) place []) 0 (pos 0))) [
        | inl same ↦ rw (same, get_or-set_same values at entry [] within, get_or-set_same (get_or values at []) 0 value (pos 0) some) refl
        | inr apart ↦ rw (get_or-set_other values at place entry [] apart) (sym (set-get_or (get_or values place []) 0 (pos 0)))
      ];
      uncoded = λ place no. get_or-set_other values at place entry [] (λ same. false≢true (sym no ∙ ap (λ k. get_or flags k false) same ∙ flag));
    }

pub changes_in_set : (s : Shape) (flags : List Bool) (kinds : List ℕ) (values : List (List ℤ)) (pli place at : ℕ) (value : ℤ) → pli < 3 → place < plane_blocks s pli → at ≡ place_of s (raster_block s pli place) → get_or flags at false ≡ true
    → at < length values → 0 < length (get_or values at []) → ChangesIn s flags kinds pli values (set values at (set (get_or values at []) 0 value))
changes_in_set s flags kinds values pli place at value p h e flag within some = record {
  changes = changes_set flags values at value flag within some;
  others = other_plane s flags kinds values pli place at (set (get_or values at []) 0 value) p h e;
}

-- no change, and one change behind another
pub changes_none : (flags : List Bool) (values : List (List ℤ)) → ChangesDc flags values values
changes_none flags values = record { long = refl; only_dc = λ place. sym (set-get_or (get_or values place []) 0 (pos 0)); uncoded = λ place no. refl }

pub changes_more : (flags : List Bool) (a b c : List (List ℤ)) → ChangesDc flags a b → ChangesDc flags b c → ChangesDc flags a c
changes_more flags a b c x y = record {
  long = y.long ∙ x.long;
  only_dc = λ place.
      let value = get_or (get_or c place []) 0 (pos 0) in
      y.only_dc place ∙ ap (λ entry. set entry 0 value) (x.only_dc place) ∙ set-set (get_or a place []) 0 (get_or (get_or b place []) 0 (pos 0)) value;
  uncoded = λ place no. y.uncoded place no ∙ x.uncoded place no;
}

pub changes_in_none : (s : Shape) (flags : List Bool) (kinds : List ℕ) (pli : ℕ) (values : List (List ℤ)) → ChangesIn s flags kinds pli values values
changes_in_none s flags kinds pli values = record { changes = changes_none flags values; others = λ other h apart. refl }

pub changes_in_more : (s : Shape) (flags : List Bool) (kinds : List ℕ) (pli : ℕ) (a b c : List (List ℤ)) → ChangesIn s flags kinds pli a b → ChangesIn s flags kinds pli b c → ChangesIn s flags kinds pli a c
changes_in_more s flags kinds pli a b c x y = record { changes = changes_more flags a b c x.changes y.changes; others = λ other h apart. y.others other h apart ∙ x.others other h apart }

-- upwards: the blocks so far are new, and what becomes of the rest behind them makes the whole
pub by_new_more : (f : ℤ → ℤ → ℤ) (w place : ℕ) (now new all : List (Option Coded)) → place < length now → new ≡ set now place (changed f w (take place now) (get_or now place None))
    → take place now ++ by_new f w (take place now) (drop place now) ≡ all → take (place + 1) new ++ by_new f w (take (place + 1) new) (drop (place + 1) new) ≡ all
unfolding by_new
by_new_more f w place now new all h e inv =
    let block = changed f w (take place now) (get_or now place None) in
    let front : take (place + 1) new ≡ take place now ++ block ∷ [] = ap (take (place + 1)) e ∙ take_more_set now place block h in
    let rest : drop (place + 1) new ≡ drop (place + 1) now = ap (drop (place + 1)) e ∙ drop-set-lt (place + 1) now place block (omega arith) in
    let whole = rw (drop_more now place None h) at inv in
    rw (front, rest) (append_assoc (take place now) (block ∷ []) (by_new f w (take place now ++ block ∷ []) (drop (place + 1) now)) ∙ whole)

pub by_new_all : (f : ℤ → ℤ → ℤ) (w place : ℕ) (now all : List (Option Coded)) → length now ≤ place → take place now ++ by_new f w (take place now) (drop place now) ≡ all → now ≡ all
unfolding by_new
by_new_all f w place now all h inv =
    let whole = rw (take_all place now h, drop_all place now h) at inv in
    sym (append-nil now) ∙ whole

-- downwards: the blocks before a place are old, and those behind it have become what they become
abbrev pub IsHalfWay : (ℤ → ℤ → ℤ) → ℕ → ℕ → List (Option Coded) → List (Option Coded) → Type 0
IsHalfWay f w past old now = now ≡ take past old ++ by_old f w (take past old) (drop past old)

by_old_next : (f : ℤ → ℤ → ℤ) (w place : ℕ) (old now new : List (Option Coded)) → place < length old → new ≡ set now place (changed f w (take place now) (get_or now place None))
    → IsHalfWay f w (place + 1) old now → IsHalfWay f w place old new
unfolding by_old
by_old_next f w place old now new h e inv =
    let here = get_or old place None in
    let rest = by_old f w (take place old ++ here ∷ []) (drop (place + 1) old) in
    let front = take place old in
    let long : length front ≡ place = length-take-le place old (omega arith) in
    let whole : now ≡ front ++ here ∷ rest = inv ∙ ap (λ l. l ++ by_old f w l (drop (place + 1) old)) (take_more old place None h) ∙ append_assoc front (here ∷ []) rest in
    let before : take place now ≡ front = ap (take place) whole ∙ take_at front (here ∷ rest) place long in
    let at : get_or now place None ≡ here = ap (λ l. get_or l place None) whole ∙ get_or_at front here rest None place long in
    let block = changed f w front here in
    e ∙ ap (λ l. set now place (changed f w l (get_or now place None))) before ∙ ap (λ b. set now place (changed f w front b)) at
    ∙ ap (λ l. set l place block) whole ∙ set_at front here rest block place long ∙ sym (ap (λ l. front ++ by_old f w front l) (drop_more old place None h))

pub by_old_more : (f : ℤ → ℤ → ℤ) (w past : ℕ) (old now new : List (Option Coded)) → 0 < past → past ≤ length old → new ≡ set now (past - 1) (changed f w (take (past - 1) now) (get_or now (past - 1) None))
    → IsHalfWay f w past old now → IsHalfWay f w (past - 1) old new
by_old_more f w past old now new some h e inv =
    let next : past ≡ past - 1 + 1 = omega arith in
    let P : ℕ → Type 0 = λ n. IsHalfWay f w n old now in
    by_old_next f w (past - 1) old now new (omega arith) e (subst P next inv)

pub by_old_none : (f : ℤ → ℤ → ℤ) (w past : ℕ) (old : List (Option Coded)) → length old ≤ past → IsHalfWay f w past old old
unfolding by_old
by_old_none f w past old h = rw (take_all past old h, drop_all past old h) (sym (append-nil old))

pub by_old_all : (f : ℤ → ℤ → ℤ) (w past : ℕ) (old now : List (Option Coded)) → past ≡ 0 → IsHalfWay f w past old now → now ≡ by_old f w [] old
by_old_all f w past old now done inv =
    let P : ℕ → Type 0 = λ n. IsHalfWay f w n old now in
    subst P done inv

-- upwards the blocks from a place on are still old
pub ahead_more : (now new old : List (Option Coded)) (place : ℕ) (block : Option Coded) → new ≡ set now place block → drop place now ≡ drop place old → drop (place + 1) new ≡ drop (place + 1) old
ahead_more now new old place block e ahead =
    ap (drop (place + 1)) e ∙ drop-set-lt (place + 1) now place block (omega arith) ∙ sym (drop-drop 1 place now) ∙ ap (drop 1) ahead ∙ drop-drop 1 place old

pub ahead_at : (now old : List (Option Coded)) (place : ℕ) → drop place now ≡ drop place old → get_or now place None ≡ get_or old place None
ahead_at now old place ahead =
    let same : place + 0 ≡ place = omega arith in
    let left = get_or-drop place now 0 None in
    let right = get_or-drop place old 0 None in
    (rw same at (sym left)) ∙ ap (λ l. get_or l 0 None) ahead ∙ (rw same at right)

-- and so are the values of 16 bits found there
pub short_more : (now old : List (Option Coded)) (place : ℕ) → place < length old → drop place now ≡ drop place old → IsShort (get_or now place None) → All IsShort (take place old) → All IsShort (take (place + 1) old)
short_more now old place h ahead here before = All-more IsShort old place None h before (subst IsShort (ahead_at now old place ahead) here)

-- downwards the block before a place is still old
half_way_at : (f : ℤ → ℤ → ℤ) (w past : ℕ) (old now : List (Option Coded)) → 0 < past → past ≤ length old → IsHalfWay f w past old now → get_or now (past - 1) None ≡ get_or old (past - 1) None
half_way_at f w past old now some h inv =
    let front = take past old in
    let long : length front ≡ past = length-take-le past old h in
    ap (λ l. get_or l (past - 1) None) inv ∙ get_or_append_left front (by_old f w front (drop past old)) None (past - 1) (omega arith) ∙ get_or-take past old (past - 1) None (omega arith)

pub short_back : (f : ℤ → ℤ → ℤ) (w past : ℕ) (old now : List (Option Coded)) → 0 < past → past ≤ length old → IsHalfWay f w past old now → IsShort (get_or now (past - 1) None) → All IsShort (drop past old) → All IsShort (drop (past - 1) old)
short_back f w past old now some h inv here behind =
    let next : past - 1 + 1 ≡ past = omega arith in
    let at : IsShort (get_or old (past - 1) None) = subst IsShort (half_way_at f w past old now some h inv) here in
    let rest : All IsShort (drop (past - 1 + 1) old) = rw next behind in
    rw (drop_more old (past - 1) None (omega arith)) (All-cons IsShort (get_or old (past - 1) None) (drop (past - 1 + 1) old) at rest)
