-- Laws of tables, slot lists, searches and texts.
use Rattle.std.proofs.Common.{◌≡◌, ℕ, zero, suc, ◌+◌, ◌-◌, ◌<◌, ◌≤◌, Bool, true, false, eqb, ◌≢◌, ◌⊎◌, List, [], length, get_or, set, replicate, sym, refl, ap, subst, inl, inr, arith, length-set, get_or-set_other, get_or-set_same, eqb-true}
use borrow.Author.Tests.{eqb-false}
use Rattle.std.proofs.lemmas.Bool.{cases_eq, cond_both}
use Rattle.model.specs.Machine.{at, first, next_vacant, or_else, put, upd}

pub upd_elim : {A : Type 0} (P : A → Type 0) (f : ℕ → A) (i j : ℕ) (v : A) → (i ≡ j → P v) → (i ≢ j → P (f j)) → P (upd f i v j)
upd_elim P f i j v a b = cond_both (eqb i j) v (f j) P (λ e. a (eqb-true i j e)) (λ e. b (eqb-false i j e))

pub upd_same : {A : Type 0} (f : ℕ → A) (i : ℕ) (v : A) → upd f i v i ≡ v
upd_same f i v = upd_elim (λ y. y ≡ v) f i i v (λ e. refl) (λ n. absurd (n refl))

pub upd_other : {A : Type 0} (f : ℕ → A) (i j : ℕ) (v : A) → i ≢ j → upd f i v j ≡ f j
upd_other f i j v h = upd_elim (λ y. y ≡ f j) f i j v (λ e. absurd (h e)) (λ n. refl)

-- one element of a list changed
pub put_elim : (P : ℕ → Type 0) (l : List ℕ) (i j v : ℕ) → (i ≡ j → P v) → (i ≢ j → P (at l j)) → 1 ≤ i → i ≤ length l →
    P (at (put l i v) j)
put_elim P l zero j v a b h k = absurd (omega arith)
put_elim P l (suc i) zero v a b h k = b (λ e. omega arith)
put_elim P l (suc i) (suc j) v a b h k = go (cases_eq i j)
  where
    go : (i ≡ j) ⊎ (i ≡ j → ⊥) → P (get_or (set l i v) j 0)
    go (inl e) = subst (λ (n : ℕ). P (get_or (set l i v) n 0)) e (subst P (sym (get_or-set_same l i v 0 k)) (a (ap suc e)))
    go (inr n) = subst P (sym (get_or-set_other l i j v 0 (λ e. n (sym e)))) (b (λ e. n (omega arith)))

pub length_put : (l : List ℕ) (i v : ℕ) → length (put l i v) ≡ length l
length_put l zero v = refl
length_put l (suc i) v = length-set l i v

pub at_zeros : (n i : ℕ) → at (replicate n 0) i ≡ 0
at_zeros n zero = refl
at_zeros zero (suc i) = refl
at_zeros (suc n) (suc zero) = refl
at_zeros (suc n) (suc (suc i)) = at_zeros n (suc i)

pub at_nil : (i : ℕ) → at [] i ≡ 0
at_nil zero = refl
at_nil (suc i) = refl

-- the search: what it finds passes the test and stands in the range; where it finds nothing, nothing passes
pub first_passes : (t : ℕ → Bool) (a n : ℕ) → first t a n ≢ 0 → t (first t a n) ≡ true
unfolding first
first_passes t a zero h = absurd (h refl)
first_passes t a (suc n) h = cond_both (t a) a (first t (suc a) n) (λ r. r ≢ 0 → t r ≡ true) (λ e k. e)
    (λ e k. first_passes t (suc a) n k) h

pub first_range : (t : ℕ → Bool) (a n : ℕ) → first t a n ≢ 0 → (a ≤ first t a n) × (first t a n < a + n)
unfolding first
first_range t a zero h = absurd (h refl)
first_range t a (suc n) h = cond_both (t a) a (first t (suc a) n) (λ r. r ≢ 0 →
    (a ≤ r) × (r < a + suc n)) (λ e k. (omega arith, omega arith))
    (λ e k. let r = first_range t (suc a) n k in (omega arith, omega arith)) h

pub first_none : (t : ℕ → Bool) (a n : ℕ) → 1 ≤ a → first t a n ≡ 0 → (k : ℕ) → a ≤ k → k < a + n → t k ≡ false
unfolding first
first_none t a zero p h k lo hi = absurd (omega arith)
first_none t a (suc n) p h k lo hi = cond_both (t a) a (first t (suc a) n) (λ r. r ≡ 0 →
    t k ≡ false) (λ e z. absurd (omega arith))
    (λ e z. elim (cases_eq a k) [
      | inl q ↦ subst (λ (m : ℕ). t m ≡ false) q e
      | inr q ↦ first_none t (suc a) n
          (omega arith) z k (omega arith) (omega arith)
    ]) h

-- the next vacant place passes the test and is in range
pub vacant_passes : (t : ℕ → Bool) (last n : ℕ) → next_vacant t last n ≢ 0 → t (next_vacant t last n) ≡ true
unfolding next_vacant
vacant_passes t last n h = go (first t (suc last) (n - last)) refl h
  where
    go : (r : ℕ) → first t (suc last) (n - last) ≡ r → or_else r (first t 1 last) ≢ 0 → t (or_else r (first t 1 last)) ≡ true
    go zero e k = first_passes t 1 last k
    go (suc r) e k = subst (λ (m : ℕ). t m ≡ true) e (first_passes t (suc last) (n - last) (λ z. omega arith))

pub vacant_range : (t : ℕ → Bool) (last n : ℕ) → last ≤ n → next_vacant t last n ≢ 0 →
    (1 ≤ next_vacant t last n) × (next_vacant t last n ≤ n)
unfolding next_vacant
vacant_range t last n small h = go (first t (suc last) (n - last)) refl h
  where
    go : (r : ℕ) → first t (suc last) (n - last) ≡ r → or_else r (first t 1 last) ≢ 0 →
        (1 ≤ or_else r (first t 1 last)) × (or_else r (first t 1 last) ≤ n)
    go zero e k = let r = first_range t 1 last k in (omega arith, omega arith)
    go (suc r) e k = let q = first_range t (suc last) (n - last) (λ z. omega arith) in (omega arith, omega arith)

pub upd_all : {A : Type 0} (P : ℕ → A → Type 0) (f : ℕ → A) (i : ℕ) (v : A) → P i v → ((j : ℕ) → i ≢ j → P j (f j)) →
    (j : ℕ) → P j (upd f i v j)
upd_all P f i v p q j = upd_elim (λ y. P j y) f i j v (λ e. subst (λ (m : ℕ). P m v) e p) (q j)
