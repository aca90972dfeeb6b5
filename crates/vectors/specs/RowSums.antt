-- Sums of a row's products with the numbers of a list. Definitions only.
use Rattle.std.specs.Prelude.{List, [], ℕ, ◌+◌, ◌-◌, ◌/◌, ◌++◌, ℤ, pos, cond, leb, length, take, drop, map, reverse, get_or, Float}
use Rattle.std.specs.List.{zip}
use Rattle.std.specs.Float.{nan, binary64}
use Rattle.std.specs.Float.Ieee.{add, mul, of_int}
use Rattle.vectors.specs.Memory.{part}
use Rattle.vectors.specs.Stencil.{total}

-- weight times number
abbrev pub times : ℤ × Float → Float
times p = mul binary64 (of_int binary64 p.0) p.1

-- the n numbers from place k on; none where there are fewer
unfoldable pub numbers : ℕ → ℕ → List Float → List Float
unfolding part
numbers k n xs = cond (leb (k + n) (length xs)) (part k n xs) []

-- a row's sum over the numbers from place k on: the first product, plus the next, and so on; NaN where there are fewer numbers than weights
unfoldable pub row_sum : List ℤ → List Float → ℕ → Float
unfolding total numbers
row_sum ws xs k = total (map times (zip ws (numbers k (length ws) xs)))

-- the same to the left: weight 0 stands at the last of the numbers
unfoldable pub descending_sum : List ℤ → List Float → ℕ → Float
unfolding total numbers
descending_sum ws xs k = total (map times (zip ws (reverse (numbers k (length ws) xs))))

-- the first and the last half of a list: all but the middle one of an odd number
abbrev pub halves : {A : Type 0} → List A → List A
halves xs = let half = length xs / 2 in take half xs ++ drop (length xs - half) xs

-- the same without the middle product
unfoldable pub hollow_sum : List ℤ → List Float → ℕ → Float
unfolding total numbers
hollow_sum ws xs k = total (map times (halves (zip ws (numbers k (length ws) xs))))

-- ---- These sums at the sizes of the rows, written out. A number past the end of the list is NaN, and so is then the sum.

-- weight j times the number at place k
abbrev pub product : List ℤ → ℕ → List Float → ℕ → Float
product ws j xs k = mul binary64 (of_int binary64 (get_or ws j (pos 0))) (get_or xs k nan)

abbrev pub sum4 : List ℤ → List Float → ℕ → Float
sum4 ws xs k =
    add binary64 (add binary64 (add binary64
    (product ws 0 xs k)
    (product ws 1 xs (k + 1)))
    (product ws 2 xs (k + 2)))
    (product ws 3 xs (k + 3))

abbrev pub sum5 : List ℤ → List Float → ℕ → Float
sum5 ws xs k = add binary64 (sum4 ws xs k) (product ws 4 xs (k + 4))

-- of five, without the middle one
abbrev pub sum5hollow : List ℤ → List Float → ℕ → Float
sum5hollow ws xs k =
    add binary64 (add binary64 (add binary64
    (product ws 0 xs k)
    (product ws 1 xs (k + 1)))
    (product ws 3 xs (k + 3)))
    (product ws 4 xs (k + 4))

abbrev pub sum6 : List ℤ → List Float → ℕ → Float
sum6 ws xs k = add binary64 (sum5 ws xs k) (product ws 5 xs (k + 5))

-- of six, to the left: weight 0 stands at k + 5
abbrev pub sum6descending : List ℤ → List Float → ℕ → Float
sum6descending ws xs k =
    add binary64 (add binary64 (add binary64 (add binary64 (add binary64
    (product ws 0 xs (k + 5))
    (product ws 1 xs (k + 4)))
    (product ws 2 xs (k + 3)))
    (product ws 3 xs (k + 2)))
    (product ws 4 xs (k + 1)))
    (product ws 5 xs k)

-- of seven, without the middle one
abbrev pub sum7hollow : List ℤ → List Float → ℕ → Float
sum7hollow ws xs k =
    add binary64 (add binary64 (add binary64 (add binary64 (add binary64
    (product ws 0 xs k)
    (product ws 1 xs (k + 1)))
    (product ws 2 xs (k + 2)))
    (product ws 4 xs (k + 4)))
    (product ws 5 xs (k + 5)))
    (product ws 6 xs (k + 6))
