-- DC prediction in a plane (Theora I, 7.8). A plane is the list of its blocks in raster order from the lower left, each None
-- where it is not coded; w is how many blocks stand in a row.
use Rattle.std.specs.Prelude.{ℕ, ◌+◌, ◌-◌, ◌%◌, ◌&&◌, ◌==◌, nat_lt, nat_le, ℤ, pos, ◌+ℤ◌, ◌-ℤ◌, Bool, List, [], ◌∷◌, ◌++◌, length, get_or, Option, Some, None, if◌then◌else◌}
use Rattle.std.specs.List.{fold}
use Rattle.std.specs.Option.{unwrap_or}
use Rattle.std.specs.Int.{int_max, int_min, int_wrap, w16}
use Rattle.thr_dc.specs.Blocks.{Coded}
use Rattle.thr_dc.specs.Predictor.{from_neighbours}

-- the DC value of a block where it counts for a kind: it is coded and has this kind
abbrev pub counted : ℕ → Option Coded → Option ℤ
counted kind None = None
counted kind (Some dc) = if dc.kind == kind then Some dc.value else None

-- the value of the block at a place, where there is such a block and it counts
abbrev pub neighbour : ℕ → List (Option Coded) → Bool → ℕ → Option ℤ
neighbour kind blocks there place = if there then counted kind (get_or blocks place None) else None

-- the last value of a kind, 0 where there is none
unfoldable pub last_of : ℕ → List (Option Coded) → ℤ
last_of kind blocks = fold (λ last block. unwrap_or (counted kind block) last) (pos 0) blocks

-- what the neighbours of the block behind these predict, if one counts for a kind
unfoldable pub around : ℕ → List (Option Coded) → ℕ → Option ℤ
around w before kind =
    let place = length before in
    let has_left = nat_lt 0 (place % w) in
    let has_below = nat_le w place in
    let has_right = nat_lt (place % w + 1) w in
    from_neighbours
    (neighbour kind before has_left (place - 1))
    (neighbour kind before (has_left && has_below) (place - w - 1))
    (neighbour kind before has_below (place - w))
    (neighbour kind before (has_below && has_right) (place - w + 1))

-- the predictor of the block behind these, if it has this kind
unfoldable pub predicted : ℕ → List (Option Coded) → ℕ → ℤ
predicted w before kind = unwrap_or (around w before kind) (last_of kind before)

-- a coded block's value becomes what f makes of it and of its predictor
unfoldable pub changed : (ℤ → ℤ → ℤ) → ℕ → List (Option Coded) → Option Coded → Option Coded
changed f w before None = None
changed f w before (Some dc) = Some (record { kind = dc.kind; value = f dc.value (predicted w before dc.kind) })

-- the blocks behind others, each changed by the new values before it
unfoldable pub by_new : (ℤ → ℤ → ℤ) → ℕ → List (Option Coded) → List (Option Coded) → List (Option Coded)
by_new f w before [] = []
by_new f w before (block ∷ blocks) = changed f w before block ∷ by_new f w (before ++ changed f w before block ∷ []) blocks

-- the blocks behind others, each changed by the old values before it
unfoldable pub by_old : (ℤ → ℤ → ℤ) → ℕ → List (Option Coded) → List (Option Coded) → List (Option Coded)
by_old f w before [] = []
by_old f w before (block ∷ blocks) = changed f w before block ∷ by_old f w (before ++ block ∷ []) blocks

-- the value of a difference, of 16 bits
abbrev pub raised : ℤ → ℤ → ℤ
raised difference predictor = int_wrap w16 (difference +ℤ predictor)

-- the difference of a value, of 16 bits
abbrev pub lowered : ℤ → ℤ → ℤ
lowered value predictor = int_wrap w16 (value -ℤ predictor)

-- the number nearest to a value among those that are no more than 580 from the predictor
abbrev pub nearest : ℤ → ℤ → ℤ
nearest value predictor = int_max (predictor -ℤ pos 580) (int_min value (predictor +ℤ pos 580))

-- differences become values
abbrev pub undone : ℕ → List (Option Coded) → List (Option Coded)
undone w blocks = by_new raised w [] blocks

-- values become differences
abbrev pub applied : ℕ → List (Option Coded) → List (Option Coded)
applied w blocks = by_old lowered w [] blocks

-- values become such as are near their predictors
abbrev pub limited : ℕ → List (Option Coded) → List (Option Coded)
limited w blocks = by_new nearest w [] blocks
