-- Loops that write two slots at each turn, or two neighbours in one: fills one over the other, with the laws of `MemoryLaws`.
use Rattle.std.specs.Prelude.{◌≡◌, ℕ, zero, suc, ◌+◌, ◌<◌, ◌≤◌, true, ◌⊎◌, List, length, get_or, set, slice_index_or, slice_set}
use Rattle.std.proofs.Math.Path.{refl, ap}
use Rattle.std.proofs.Common.{sym, ◌∙◌}
use Rattle.std.proofs.Math.Logic.{inl, inr}
use Rattle.std.proofs.Math.Nat.{add-suc}
use native.Mathlib.Omega.{arith}
use Rattle.std.proofs.Math.Seq.{set_comm}
use Rattle.vectors.specs.Memory.{tab, part, put}
use Rattle.vectors.specs.MemoryLaws.{fill, apart, apart_or, fill_more, fill_put, length_tab, length-put_is, part_fill_apart, get_d_part, read_above, Filled, step, Grown, grown_step}

off : (a b n i : ℕ) → apart a n b n ≡ true → i < n → (a + i < b) ⊎ (b + i ≤ a + i)
off a b n i e h = elim (apart_or a n b n e) [ inl l ↦ inl (omega arith) | inr l ↦ inr (omega arith) ]

module _ {A : Type 0} where
  -- a number stored past what is filled
  pub fill_set : (b i : ℕ) (g : ℕ → A) (xs : List A) (k : ℕ) (v : A) → (k < b) ⊎ (b + i ≤ k) → slice_set (fill b i g xs) k v ≡ fill b i g (slice_set xs k v)
  unfolding fill
  fill_set b zero g xs k v h = refl
  fill_set b (suc i) g xs k v h =
      set_comm (fill b i g xs) (b + i) k (g i) v (λ e. elim h [ inl l ↦ omega arith | inr l ↦ omega (arith, add-suc b i) ])
      ∙ ap (λ (l : List A). set l (b + i) (g i)) (fill_set b i g xs k v (elim h [ inl l ↦ inl l | inr l ↦ inr (omega (arith, add-suc b i)) ]))

  -- xs is E with f j at a + j and g j at b + j, for each j below i
  pub record Filled2 (a b i : ℕ) (f g : ℕ → A) (E xs : List A) : Type 0 where
    pub is : xs ≡ fill b i g (fill a i f E)

  pub filled2_none : (a b : ℕ) (f g : ℕ → A) (E : List A) → Filled2 a b 0 f g E E
  unfolding fill
  filled2_none a b f g E = record { is = refl }

  -- a turn
  pub step2 : {a b i : ℕ} {f g : ℕ → A} {E xs : List A} {k l : ℕ} {u v : A} (n : ℕ) → Filled2 a b i f g E xs → i < n → apart a n b n ≡ true
      → k ≡ a + i → l ≡ b + i → u ≡ f i → v ≡ g i → Filled2 a b (i + 1) f g E (slice_set (slice_set xs k u) l v)
  step2 {a} {b} {i} {f} {g} {E} {xs} {k} {l} {u} {v} n F h e p q x y =
      let s = fill_set b i g (fill a i f E) (a + i) (f i) (off a b n i e h) in
      record { is = cc (F.is, s, fill_more a i f E, fill_more b i g (fill a (i + 1) f E)) }

  -- a turn that stores two neighbours in one slot
  pub grown_pair : {at i₀ i : ℕ} {g : List A → ℕ → A} {xs₀ xs : List A} {k l : ℕ} {u v : A} → Grown at i₀ i g xs₀ xs → k ≡ at + i → l ≡ at + (i + 1)
      → ((E : List A) → Filled at i (g E) E xs → u ≡ g E i) → ((E : List A) → Filled at (i + 1) (g E) E (slice_set xs k u) → v ≡ g E (i + 1)) → Grown at i₀ (i + 2) g xs₀ (slice_set (slice_set xs k u) l v)
  grown_pair {at} {i₀} {i} {g} {xs₀} {xs} {k} {l} {u} {v} G p q x y =
      let e : i + 1 + 1 ≡ i + 2 = omega arith in
      rw e at (grown_step {v = v} (grown_step {v = u} G p x) q y)

  -- the same, both read before they are stored
  pub filled_pair : {at i : ℕ} {g : ℕ → A} {E xs : List A} {k l : ℕ} {u v : A} → Filled at i g E xs → k ≡ at + i → l ≡ at + (i + 1) → u ≡ g i → v ≡ g (i + 1) → Filled at (i + 2) g E (slice_set (slice_set xs k u) l v)
  filled_pair {at} {i} {g} {E} {xs} F p q x y =
      let e : i + 1 + 1 ≡ i + 2 = omega arith in
      rw e at (step (step F p x) q y)

  -- a part apart from what is written, and an element of it
  pub filled2_part : {a b i : ℕ} {f g : ℕ → A} {E xs : List A} (n c m : ℕ) (d : A) → Filled2 a b i f g E xs → i ≤ n → apart a n c m ≡ true → apart b n c m ≡ true → part c m xs ≡ part c m E
  filled2_part {a} {b} {i} {f} {g} {E} n c m d F h p q =
      ap (λ (l : List A). part c m l) F.is ∙ part_fill_apart b i n g (fill a i f E) c m d h q ∙ part_fill_apart a i n f E c m d h p

  pub filled2_at : {a b i : ℕ} {f g : ℕ → A} {E xs : List A} (n c m j : ℕ) (d : A) → Filled2 a b i f g E xs → i ≤ n → apart a n c m ≡ true → apart b n c m ≡ true → j < m → slice_index_or xs (c + j) d ≡ slice_index_or (part c m E) j d
  filled2_at {a} {b} {i} {f} {g} {E} {xs} n c m j d F h p q l = sym (get_d_part c m xs j d l) ∙ ap (λ (y : List A). get_or y j d) (filled2_part n c m d F h p q)

  -- the element of the first that is written next
  pub filled2_mine : {a b i : ℕ} {f g : ℕ → A} {E xs : List A} (n : ℕ) (d : A) → Filled2 a b i f g E xs → i < n → apart b n a n ≡ true → slice_index_or xs (a + i) d ≡ slice_index_or (part a n E) i d
  filled2_mine {a} {b} {i} {f} {g} {E} {xs} n d F h p =
      sym (get_d_part a n xs i d h) ∙ ap (λ (y : List A). get_or (part a n y) i d) F.is
      ∙ ap (λ (y : List A). get_or y i d) (part_fill_apart b i n g (fill a i f E) a n d (omega arith) p)
      ∙ get_d_part a n (fill a i f E) i d h ∙ read_above a i f E (a + i) d (omega arith) ∙ sym (get_d_part a n E i d h)

  -- all turns done
  pub filled2_put : {a b i : ℕ} {f g : ℕ → A} {E xs : List A} (n : ℕ) (d : A) → Filled2 a b i f g E xs → i ≡ n → a + n ≤ length E → b + n ≤ length E → xs ≡ put b (tab n g) (put a (tab n f) E)
  filled2_put {a} {b} {i} {f} {g} {E} {xs} n d F e h k =
      let x = fill_put a n f E d h in
      let l = length-put_is a n (tab n f) E (length_tab n f) h in
      let F' : xs ≡ fill b n g (fill a n f E) = rw e at F.is in
      rw x at F' ∙ fill_put b n g (put a (tab n f) E) d (rw l k)

  -- the invariants, as `Grown` of `MemoryLaws`
  pub record Grown2 (a b i₀ i : ℕ) (f g : List A → ℕ → A) (xs₀ xs : List A) : Type 0 where
    pub grow : (E : List A) → Filled2 a b i₀ (f E) (g E) E xs₀ → Filled2 a b i (f E) (g E) E xs

  pub grown2_none : (a b i₀ : ℕ) (f g : List A → ℕ → A) (xs₀ : List A) → Grown2 a b i₀ i₀ f g xs₀ xs₀
  grown2_none a b i₀ f g xs₀ = record { grow = λ E F. F }

  pub grown2_step : {a b i₀ i : ℕ} {f g : List A → ℕ → A} {xs₀ xs : List A} {k l : ℕ} {u v : A} (n : ℕ) → Grown2 a b i₀ i f g xs₀ xs → i < n → apart a n b n ≡ true → k ≡ a + i → l ≡ b + i
      → ((E : List A) → Filled2 a b i (f E) (g E) E xs → (u ≡ f E i) × (v ≡ g E i)) → Grown2 a b i₀ (i + 1) f g xs₀ (slice_set (slice_set xs k u) l v)
  grown2_step n G h e p q y =
      record { grow = λ E F. let F' = G.grow E F in step2 n F' h e p q (y E F').0 (y E F').1 }
