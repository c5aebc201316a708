-- The bytes of a file that were read and are not yet judged (private).
use Rattle.std.specs.Prelude.{◌≡◌, ◌≤◌, ◌+◌, ◌-◌, ◌*◌, ◌⊎◌, ℕ, min, List, ◌++◌, length, take, drop}
use Rattle.ogg_page.specs.Page.{largest_page}
use Rattle.src_index.specs.declared.ahead.Ahead.{Ahead}

-- the bytes themselves
abbrev pub window_of : Ahead → List ℕ
window_of ahead = take (ahead.past - ahead.first) (drop ahead.first ahead.buf.items)

-- they are those of the file from a byte on
pub record LiesIn (ahead : Ahead) (bytes : List ℕ) : Type 0 where
  pub size : ahead.size ≡ length bytes
  pub rest : List ℕ
  pub whole : drop ahead.at bytes ≡ window_of ahead ++ rest

-- they reach to the file's end, or are as many as two of the largest pages take
abbrev pub HasPages : Ahead → Type 0
HasPages ahead = (ahead.at + (ahead.past - ahead.first) ≡ ahead.size) ⊎ (2 * largest_page ≤ ahead.past - ahead.first)

-- they reach to the file's end, or are as many, or a largest page more
abbrev pub HasMore : Ahead → Ahead → Type 0
HasMore old new = (new.at + (new.past - new.first) ≡ new.size) ⊎ (min (old.past - old.first + largest_page) (2 * largest_page) ≤ new.past - new.first)

-- of the same file, from the same byte on
pub record StaysAt (old new : Ahead) : Type 0 where
  pub id : new.id ≡ old.id
  pub size : new.size ≡ old.size
  pub at : new.at ≡ old.at
