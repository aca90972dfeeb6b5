-- The bytes of a text in ASCII.
use Rattle.std.specs.Prelude.{ℕ, List, [], ◌∷◌}
use Prim.Native.Char.{code}
use Prim.Native.String.{String, [] as empty, ◌∷◌ as ◌∷ˢ◌}

-- the code of each character
unfoldable pub bytes_of : String → List ℕ
bytes_of empty = []
bytes_of (c ∷ˢ s) = code c ∷ bytes_of s
