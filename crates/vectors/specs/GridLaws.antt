-- Laws of the grid's definitions, by the level.
use Rattle.std.specs.Prelude.{◌≡◌, refl, Bool, true, false, cond, ◌&&◌, ℕ, ◌+◌, ◌^◌, ◌≤◌, ◌<◌, leb, pos, neg_ℤ}
use Rattle.std.proofs.Common.{sym, ap, true≢false, arith, le-leb, leb-true, lt-ltb, le-ltb, pow_mono}
use Rattle.std.proofs.lemmas.Bool.{lt-leb}
use Rattle.std.specs.Float.{nan, fin, binary64}
use Rattle.std.specs.Float.Ieee.{mul, of_int}
use Rattle.vectors.specs.Grid.{level_in_range, points_of, spacing_of, point_of}

-- a level in range
pub record Level (level : ℕ) : Type 0 where
  pub least : 5 ≤ level
  pub most : level ≤ 16

pub in_range_lem : {level : ℕ} → Level level → level_in_range level ≡ true
in_range_lem {level} l = simp (le-leb 5 level l.least, le-leb level 16 l.most)

pub below_range : (level : ℕ) → level < 5 → level_in_range level ≡ false
below_range level h = simp (lt-leb 5 level h)

pub above_range : (level : ℕ) → 16 < level → level_in_range level ≡ false
above_range level h = simp (le-leb 5 level (omega arith), lt-leb level 16 h)

pub level_of : (level : ℕ) → level_in_range level ≡ true → Level level
level_of level e = go (leb 5 level) (leb level 16) (leb-true 5 level) (leb-true level 16) e
  where
    go : (a b : Bool) → (a ≡ true → 5 ≤ level) → (b ≡ true → level ≤ 16) → (a && b) ≡ true → Level level
    go true true f g e = record { least = f refl; most = g refl }
    go true false f g e = absurd (true≢false (sym e))
    go false b f g e = absurd (true≢false (sym e))

pub points_in : {level : ℕ} → Level level → points_of level ≡ 2 ^ level + 1
unfolding points_of
points_in l = rw (in_range_lem l)

pub points_out : (level : ℕ) → level_in_range level ≡ false → points_of level ≡ 0
unfolding points_of
points_out level e = ap (λ b. cond b (2 ^ level + 1) 0) e

pub points_least : {level : ℕ} → Level level → 33 ≤ points_of level
points_least {level} l = omega (arith, points_in l, pow_mono {i = 5} {j = level} l.least)

pub points_most : {level : ℕ} → Level level → points_of level ≤ 65537
points_most {level} l = omega (arith, points_in l, pow_mono {i = level} {j = 16} l.most)

pub spacing_in : {level : ℕ} → Level level → spacing_of level ≡ fin false 1 (neg_ℤ (pos level))
unfolding spacing_of
spacing_in l = rw (in_range_lem l)

pub spacing_out : (level : ℕ) → level_in_range level ≡ false → spacing_of level ≡ nan
unfolding spacing_of
spacing_out level e = ap (λ b. cond b (fin false 1 (neg_ℤ (pos level))) nan) e

-- at any level
pub points_bound : (level : ℕ) → points_of level ≤ 65537
points_bound level = go (level_in_range level) refl
  where
    go : (b : Bool) → level_in_range level ≡ b → points_of level ≤ 65537
    go true e = points_most (level_of level e)
    go false e = omega (arith, points_out level e)

pub point_in : (level i : ℕ) → i < points_of level → point_of level i ≡ mul binary64 (of_int binary64 (pos i)) (spacing_of level)
unfolding point_of
point_in level i h = simp (lt-ltb i (points_of level) h)

pub point_out : (level i : ℕ) → points_of level ≤ i → point_of level i ≡ nan
unfolding point_of
point_out level i h = simp (le-ltb i (points_of level) h)
