-- Laws of the NaN tests: of a state's layout, of two lists, and of a number compared with itself.
use Rattle.std.specs.Prelude.{◌≡◌, ℕ, ◌*◌, true, false, ◌||◌, List, ◌++◌, take, ◌==◌, refl, Float}
use Rattle.std.proofs.Common.{sym, ap, ◌∙◌, eq-eqb}
use Rattle.std.proofs.lemmas.List.Folds.{list_any-append}
use Rattle.std.specs.Float.{nan, inf, fin}
use Rattle.std.specs.Float.Ieee.{up, down, ne, is_nan}
use Rattle.physics.specs.State.{State, lay_out, state_in}
use Rattle.physics.specs.StateLaws.{lay_out-state_in}
use Rattle.physics.specs.Nan.{holds_nan, state_has_nan, any_nan}

pub holds_nan-append : (xs ys : List Float) → holds_nan (xs ++ ys) ≡ (holds_nan xs || holds_nan ys)
unfolding holds_nan
holds_nan-append xs ys = list_any-append is_nan xs ys

-- of a state as a memory holds it
pub any_nan-lay_out : (s : State) → any_nan s.time (lay_out s) ≡ state_has_nan s
unfolding any_nan state_has_nan lay_out
any_nan-lay_out s = simp holds_nan-append

pub state_has_nan-state_in : (n : ℕ) (time : Float) (memory : List Float) → state_has_nan (state_in n time memory) ≡ any_nan time (take (8 * n) memory)
unfolding state_in
state_has_nan-state_in n time memory = sym (any_nan-lay_out (state_in n time memory)) ∙ ap (any_nan time) (lay_out-state_in n time memory)

equal_itself : (k : ℕ) → (k == k) ≡ true
equal_itself k = eq-eqb k k refl

-- how code tests for a NaN
pub differs_is_nan : (x : Float) → ne x x ≡ is_nan x
unfolding ne is_nan
differs_is_nan nan = refl
differs_is_nan (inf true) = refl
differs_is_nan (inf false) = refl
differs_is_nan (fin true m e) = rw (equal_itself (m * up e * down e))
differs_is_nan (fin false m e) = rw (equal_itself (m * up e * down e))
