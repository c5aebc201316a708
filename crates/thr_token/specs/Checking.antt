-- Tokens are checked by how many blocks stand at each place (own). The blocks of luma and the others are two lists, since those
-- stand first in coded order; waits has for each place how many blocks of a list stand there. (private)
use Rattle.std.specs.Prelude.{ℕ, ◌≡◌, ◌≤◌, ◌<◌, ◌+◌, ◌==◌, ⊤, Bool, List, [], ◌∷◌, ◌++◌, length, get_or, Ok, true, false, if◌then◌else◌}
use Rattle.vid_base.specs.declared.shape.Shape.{Shape}
use Rattle.vid_geom.specs.CodedOrder.{order_of}
use Rattle.thr_token.specs.declared.checking.Waiting.{Waiting}
use Rattle.thr_token.specs.Coefficients.{Progress, Source, at_place, places, unended, untouched_blocks}

-- how many of one block stand at a place
unfoldable pub one_at : ℕ → Progress → ℕ
one_at place b = if b.place == place then 1 else 0

-- how many of these blocks stand at a place
unfoldable pub count_at : ℕ → List Progress → ℕ
count_at place [] = 0
count_at place (b ∷ blocks) = one_at place b + count_at place blocks

-- all blocks are of luma, or none is
unfoldable pub AreOf : Bool → List Progress → Type 0
AreOf luma [] = ⊤
AreOf luma (b ∷ blocks) = (b.luma ≡ luma) × AreOf luma blocks

-- so many blocks stand at each place from this one on
abbrev pub AreCounted : ℕ → List ℕ → List Progress → Type 0
AreCounted from waits blocks = (place : ℕ) → from ≤ place → place < 64 → get_or waits place 0 ≡ count_at place blocks

-- blocks of one kind before they are asked at a place; opened is how many blocks of the frame have not ended
pub record Stands (place : ℕ) (luma : Bool) (waits : List ℕ) (opened : ℕ) (before blocks behind : List Progress) : Type 0 where
  pub counted : AreCounted place waits blocks
  pub kind : AreOf luma blocks
  pub open_is : opened ≡ unended before + unended blocks + unended behind
  pub few : length blocks < 4294967295

-- and when they were asked
pub record Asked {S : Type 0} (next : Source S) (place : ℕ) (luma : Bool) (before blocks behind : List Progress) (run : ℕ) (source : S) (waits : List ℕ) (opened rest : ℕ) (left : S) : Type 0 where
  pub after : List Progress
  pub same : at_place next place before (blocks ++ behind) run source ≡ at_place next place (before ++ after) behind rest left
  pub counted : AreCounted (place + 1) waits after
  pub kind : AreOf luma after
  pub open_is : opened ≡ unended before + unended after + unended behind
  pub as_many : length after ≡ length blocks

-- both kinds, before a place
pub record AreWaiting (from : ℕ) (waiting : Waiting) (lumas chromas : List Progress) : Type 0 where
  pub lumas_counted : AreCounted from waiting.luma lumas
  pub chromas_counted : AreCounted from waiting.chroma chromas
  pub lumas_are : AreOf (true) lumas
  pub chromas_are : AreOf (false) chromas
  pub open_is : waiting.unended ≡ unended lumas + unended chromas
  pub few_lumas : length lumas < 4294967295
  pub few_chromas : length chromas < 4294967295

-- and behind it
pub record AreBehind {S : Type 0} (next : Source S) (place : ℕ) (lumas chromas : List Progress) (run : ℕ) (source : S) (waiting : Waiting) (rest : ℕ) (left : S) : Type 0 where
  pub lumas_after : List Progress
  pub chromas_after : List Progress
  pub same : at_place next place [] (lumas ++ chromas) run source ≡ Ok ((lumas_after ++ chromas_after, rest), left)
  pub waiting_is : AreWaiting (place + 1) waiting lumas_after chromas_after

-- and behind the last place
pub record AreDone {S : Type 0} (next : Source S) (lumas chromas : List Progress) (run : ℕ) (source : S) (left : S) : Type 0 where
  pub all : List Progress
  pub rest : ℕ
  pub same : places next 63 1 (lumas ++ chromas) run source ≡ Ok ((all, rest), left)

-- the blocks of a frame before their first tokens
pub record HaveBegun (s : Shape) (flags : List Bool) (waiting : Waiting) : Type 0 where
  pub lumas : List Progress
  pub chromas : List Progress
  pub all : lumas ++ chromas ≡ untouched_blocks (order_of s) flags
  pub waiting_is : AreWaiting 0 waiting lumas chromas
