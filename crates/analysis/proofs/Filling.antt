-- Arrays that are filled place by place, up to a place, or by a function of the index.
use Rattle.std.proofs.Common.{◌≡◌, ℕ, zero, suc, ◌+◌, ◌-◌, ◌<◌, ◌≤◌, true, false, ltb, List, ◌++◌, length, get_or, set, drop, replicate, sym, ap, ◌∙◌, subst, ap₂, inl, inr, arith, length-set}
use lib.ListN.{length-replicate}
use Rattle.std.specs.Array.{IsFromFnResult, IsFromFnResultFrom}
use denote.Param.Members.{Mut, Called}
use Rattle.std.proofs.lemmas.Bool.{cases_eq, cases_lt, le-ltb, lt-ltb}
use Rattle.std.proofs.lemmas.List.{get_or-append_right, get_or-drop, get_or-replicate, get_or_append_left, get_or_past}
use Rattle.std.proofs.lemmas.List.Edits.{fill_by_more}

-- the array has m places, and those below n hold what f says
pub record Filled {A : Type 0} (f : ℕ → A) (d : A) (m n : ℕ) (xs : List A) : Type 0 where
  pub size : length xs ≡ m
  pub filled : (u : ℕ) → u < n → get_or xs u d ≡ f u

pub fill : {A : Type 0} {f : ℕ → A} {d : A} {m n : ℕ} {xs : List A} → Filled f d m n xs → (k : ℕ) (v : A) → k ≡ n → n < m → v ≡ f n → Filled f d m (n + 1) (set xs k v)
fill {f = f} {d = d} {m = m} {n = n} {xs = xs} h k v e l w =
    subst (Filled f d m (n + 1)) (sym (ap₂ (set xs) e w)) (record {
      size = length-set _ _ _ ∙ h.size;
      filled = fill_by_more f xs n d (omega (arith, h.size)) h.filled;
    })

none_filled : (m k : ℕ) → get_or (replicate m false) k false ≡ false
none_filled m k = elim (cases_lt k m) [
  | inl l ↦ get_or-replicate m k false false l
  | inr l ↦ get_or_past (replicate m false) k false (omega (arith, length-replicate m false))
]

-- the first n of m places
pub first_filled : (n m q k : ℕ) → (k < n → k < q) → (k < q → k < n) → get_or (replicate n true ++ drop n (replicate m false)) k false ≡ ltb k q
first_filled n m q k to from = elim (cases_lt k n) [
  | inl l ↦ get_or_append_left (replicate n true) _ false k (omega (arith, length-replicate n true)) ∙ get_or-replicate n k true false l ∙ sym (lt-ltb k q (to l))
  | inr l ↦
      get_or-append_right (replicate n true) _ n k false (length-replicate n true) l ∙ get_or-drop n (replicate m false) (k - n) false ∙ none_filled m (n + (k - n))
      ∙ sym (le-ltb k q (elim (cases_lt k q) [ inl h ↦ absurd (omega (arith, from h)) | inr h ↦ h ]))
]

module _ {F B : Type 0} (g : Mut F (ℕ × Unit {0}) B) (f : F) (h : ℕ → B) (same : (x : ℕ) (y : B) (q : F) → Called g f (x, tt) y q → (q ≡ f) × (y ≡ h x)) where
  filled_from : (ys : List B) (i n : ℕ) → IsFromFnResultFrom g f ys i n → (k : ℕ) (d : B) → i ≤ k → k < i + n → get_or ys k d ≡ h k
  filled_from ys i zero v k d a b = absurd (omega arith)
  filled_from ys i (suc n) v k d a b =
      let s = same i v.1 v.0 v.3 in
      let P : F → Type 0 = λ q. IsFromFnResultFrom g q ys (i + 1) n in
      elim (cases_eq k i) [
        | inl z ↦ ap (λ x. get_or ys x d) z ∙ v.2.1 d ∙ s.1 ∙ ap h (sym z)
        | inr z ↦ filled_from ys (i + 1) n (subst P s.0 v.4) k d (omega arith) (omega arith)
      ]

  -- what the function gives at each index, where calls leave it as it was
  pub filled : (ys : List B) (n : ℕ) → IsFromFnResult g f ys n → (k : ℕ) (d : B) → k < n → get_or ys k d ≡ h k
  filled ys n v k d l = filled_from ys 0 n v.each k d (omega arith) (omega arith)
