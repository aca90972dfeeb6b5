-- Laws of bytes as they stand, and of the numbers that they are.
use Rattle.std.specs.Prelude.{ℕ, zero, suc, ◌+◌, ◌*◌, ◌<◌, List, ◌∷◌, ◌++◌, ◌≡◌, refl, length, get_or}
use Rattle.std.proofs.Common.{sym, ap, ap₂, ◌∙◌, arith, ext_get_or}
use Rattle.run.specs.Bytes.{byte_at, little}
use Rattle.order_forms.specs.Spelling.{bytes_at}

pub length_bytes : (n : ℕ) (s : List ℕ) (at : ℕ) → length (bytes_at n s at) ≡ n
unfolding bytes_at
length_bytes zero s at = refl
length_bytes (suc n) s at = ap suc (length_bytes n s (at + 1))

pub get_d_bytes : (n : ℕ) (s : List ℕ) (at j : ℕ) → j < n → get_or (bytes_at n s at) j 0 ≡ byte_at s (at + j)
unfolding bytes_at
get_d_bytes zero s at j h = absurd (omega arith)
get_d_bytes (suc n) s at zero h = ap (byte_at s) (let z : at ≡ at + 0 = omega arith in z)
get_d_bytes (suc n) s at (suc j) h = get_d_bytes n s (at + 1) j (omega arith) ∙ ap (byte_at s) (let z : at + 1 + j ≡ at + suc j = omega arith in z)

pub bytes_split : (m n : ℕ) (s : List ℕ) (at : ℕ) → bytes_at (m + n) s at ≡ bytes_at m s at ++ bytes_at n s (at + m)
unfolding bytes_at
bytes_split zero n s at = ap₂ (λ (k i : ℕ). bytes_at k s i) (let z : 0 + n ≡ n = omega arith in z) (let z : at ≡ at + 0 = omega arith in z)
bytes_split (suc m) n s at =
    ap (λ (k : ℕ). bytes_at k s at) (let z : suc m + n ≡ suc (m + n) = omega arith in z)
    ∙ ap (λ (l : List ℕ). byte_at s at ∷ l)
    (bytes_split m n s (at + 1) ∙ ap (λ (i : ℕ). bytes_at m s (at + 1) ++ bytes_at n s i) (let z : at + 1 + m ≡ at + suc m = omega arith in z))

-- all of them
pub bytes_all : (s : List ℕ) → s ≡ bytes_at (length s) s 0
bytes_all s =
    ext_get_or 0 s (bytes_at (length s) s 0) (sym (length_bytes (length s) s 0))
    (λ i h. sym (get_d_bytes (length s) s 0 i h ∙ ap (byte_at s) (let z : 0 + i ≡ i = omega arith in z)))

-- numbers of equal bytes
pub little_same : (s t : List ℕ) (n at to : ℕ) → ((j : ℕ) → j < n → byte_at t (to + j) ≡ byte_at s (at + j)) → little n t to ≡ little n s at
unfolding little
little_same s t zero at to h = refl
little_same s t (suc n) at to h =
    let first : byte_at t to ≡ byte_at s at =
    ap (byte_at t) (let z : to ≡ to + 0 = omega arith in z) ∙ h 0 (omega arith) ∙ ap (byte_at s) (let z : at + 0 ≡ at = omega arith in z) in
    let later : little n t (to + 1) ≡ little n s (at + 1) =
    little_same s t n (at + 1) (to + 1) (λ j l.
    ap (byte_at t) (let z : to + 1 + j ≡ to + suc j = omega arith in z) ∙ h (suc j) (omega arith) ∙ ap (byte_at s) (let z : at + suc j ≡ at + 1 + j = omega arith in z)) in
    ap₂ (λ (a b : ℕ). a + 256 * b) first later
