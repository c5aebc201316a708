-- Tokens by rank (own): the first has the shortest code.
use Rattle.std.specs.Prelude.{ℕ, List, [], ◌∷◌}
use Rattle.std.specs.List.{range_with_len}

-- all tokens in their order
abbrev pub in_order : List ℕ
in_order = range_with_len 0 32

-- tokens by their rank in the trees of number 1
unfoldable pub by_rank_1 : List ℕ
by_rank_1 = 0 ∷ 1 ∷ 9 ∷ 10 ∷ 2 ∷ 3 ∷ 7 ∷ 23 ∷ 4 ∷ 5 ∷ 11 ∷ 12 ∷ 24 ∷ 13 ∷ 8 ∷ 30 ∷ 6 ∷ 14 ∷ 15 ∷ 16 ∷ 17 ∷ 18 ∷ 19 ∷ 20 ∷ 21 ∷ 22 ∷ 25 ∷ 26 ∷ 27 ∷ 28 ∷ 29 ∷ 31 ∷ []

-- tokens by their rank in the trees of number 2
unfoldable pub by_rank_2 : List ℕ
by_rank_2 = 9 ∷ 10 ∷ 0 ∷ 11 ∷ 12 ∷ 13 ∷ 14 ∷ 1 ∷ 15 ∷ 16 ∷ 17 ∷ 18 ∷ 19 ∷ 20 ∷ 2 ∷ 3 ∷ 4 ∷ 5 ∷ 6 ∷ 7 ∷ 8 ∷ 21 ∷ 22 ∷ 23 ∷ 24 ∷ 25 ∷ 26 ∷ 27 ∷ 28 ∷ 29 ∷ 30 ∷ 31 ∷ []

-- tokens by their rank in the trees of number 3
unfoldable pub by_rank_3 : List ℕ
by_rank_3 = 7 ∷ 8 ∷ 0 ∷ 23 ∷ 24 ∷ 25 ∷ 26 ∷ 27 ∷ 28 ∷ 29 ∷ 30 ∷ 31 ∷ 9 ∷ 10 ∷ 1 ∷ 2 ∷ 3 ∷ 4 ∷ 5 ∷ 6 ∷ 11 ∷ 12 ∷ 13 ∷ 14 ∷ 15 ∷ 16 ∷ 17 ∷ 18 ∷ 19 ∷ 20 ∷ 21 ∷ 22 ∷ []
