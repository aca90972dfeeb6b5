-- 02, request 1, "Find the threshold amplitude": the halvings, over what the run at each number of units answers. Definitions only.
use Rattle.std.specs.Prelude.{◌≡◌, ℕ, zero, suc, ◌+◌, ◌-◌, ◌/◌, ◌≤◌, cond, ◌==◌}

-- what a run answers to a search: timeout, collapse, neither, or the number that it is refused with
pub data Side : Type 0 where
  times_out : Side
  collapses : Side
  neither : Side
  refused_run : ℕ → Side

-- "It stops .. when the halvings are used, the ends differ by 1, or a middle run answers neither or is refused": the last with what it answers
pub data Why : Type 0 where
  used : Why
  adjacent : Why
  undecided : Side → Why

-- the place of a reason in that sentence
unfoldable pub reason_of : Why → ℕ
reason_of used = 1
reason_of adjacent = 2
reason_of (undecided r) = 3

-- "The result carries both ends, the halvings made and why it stopped."
pub record Bracket : Type 0 where
  pub low : ℕ
  pub high : ℕ
  pub made : ℕ
  pub why : Why

abbrev pub stop : (low high made : ℕ) → Why → Bracket
stop low high made why = record { low = low; high = high; made = made; why = why }

-- "The middle is the sum halved, rounded down"
abbrev pub middle : (low high : ℕ) → ℕ
middle low high = (low + high) / 2

-- "each halving searches the half that remains, keeping a low end whose run answers timeout and a high end whose run answers collapse"; a middle run
-- that answers neither or is refused "isn't counted as made". `go` searches between two ends.
abbrev pub half : Side → (low high made : ℕ) → (go : ℕ → ℕ → Bracket) → Bracket
half times_out low high made go = go (middle low high) high
half collapses low high made go = go low (middle low high)
half neither low high made go = stop low high made (undecided neither)
half (refused_run n) low high made go = stop low high made (undecided (refused_run n))

module _ (run : ℕ → Side) where
  -- `left` halvings remain, `made` are made; "the first that applies named"
  unfoldable pub halve : (left made low high : ℕ) → Bracket
  halve zero made low high = stop low high made used
  halve (suc left) made low high =
      cond (high - low == 1) (stop low high made adjacent)
      (half (run (middle low high)) low high made (λ l h. halve left (made + 1) l h))

  -- a stop by the middle: the ends are apart, and its run answers r, neither timeout nor collapse
  pub record StoppedBy (low high : ℕ) (r : Side) : Type 0 where
    pub wide : 2 ≤ high - low
    pub middle_run : run (middle low high) ≡ r
    pub no_timeout : r ≡ times_out → ⊥
    pub no_collapse : r ≡ collapses → ⊥
