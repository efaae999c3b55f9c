-- How many first places are enough: one start decides, more places stay enough, and where a bisection ends is the least q.
use Rattle.std.proofs.Common.{◌≡◌, ℕ, ◌+◌, ◌%◌, ◌<◌, ◌≤◌, Bool, true, false, MatchBool, List, length, get_or, Some, None, sym, ap, ◌∙◌, mod-lt, arith}
use Rattle.std.specs.List.{AllWithin, HoldsAt, range_with_len}
use Rattle.std.proofs.lemmas.Bool.{both_ways}
use Rattle.std.proofs.lemmas.List.FromFn.{get_or-range_with_len, length-range_with_len}
use Rattle.model.specs.declared.task.Task.{Task}
use Rattle.model.specs.InTime.{D, Partition, all_in_time, passes}
use Rattle.model.specs.Orders.{Order}
use Rattle.model.specs.Planning.{least_q, with_first}
use Rattle.model.proofs.Decisions.{decides_passes, refuted}
use Rattle.model.proofs.Gaps.{one_suffices}
use Rattle.model.proofs.Planning.{enough_more, enough_suits, least_is, none_is, suits_enough}

module _ (order : Order) (p : ℕ) (ks : List Task) (f : ℕ) where
  abbrev pub enough : ℕ → Bool
  enough q = all_in_time (with_first order p ks f q) f

  -- The start s decides whether the first q places are enough.
  pub record DecidesAt (q s : ℕ) : Type 0 where
    pub all_pass : ((i : ℕ) → i < length ks → passes (with_first order p ks f q) i s ≡ true) → true ≡ enough q
    pub one_fails : (i : ℕ) → i < length ks → false ≡ passes (with_first order p ks f q) i s → false ≡ enough q

  -- the start after them does
  pub next_decides : (q : ℕ) → 1 ≤ f → q ≤ f → DecidesAt q (q % f)
  next_decides q pos l =
      let P : Partition = with_first order p ks f q in
      record {
        all_pass = λ h. sym (enough_suits order p ks f q (λ i m. one_suffices order p ks f q i (D P i) pos l ((decides_passes P i (q % f)).0 (h i m))));
        one_fails = λ i m h. sym (refuted (enough q) (λ e.
            both_ways (passes P i (q % f)) (sym h) ((decides_passes P i (q % f)).1 (suits_enough order p ks f q e i m (q % f) (mod-lt q pos)))));
      }

  -- what tests of all the tasks at that start say of it
  pub decided : (q s n : ℕ) → DecidesAt q s → n ≡ length ks → (r : Bool) →
      MatchBool r (AllWithin (λ i. passes (with_first order p ks f q) i s ≡ true) (range_with_len 0 n) 0 (length (range_with_len 0 n)))
      ((k : ℕ) × (k < length (range_with_len 0 n)) × HoldsAt (λ i. passes (with_first order p ks f q) i s ≡ false) (range_with_len 0 n) k) → r ≡ enough q
  decided q s n d e true h = d.all_pass (λ i l.
      let m : i < n = omega arith in
      let here : get_or (range_with_len 0 n) i 0 ≡ i = omega (arith, get_or-range_with_len 0 n i 0 m) in
      ap (λ j. passes (with_first order p ks f q) j s) (sym here) ∙ h i 0 (omega arith) (omega (arith, length-range_with_len 0 n)))
  decided q s n d e false h =
      let m : h.0 < n = omega (arith, h.1, length-range_with_len 0 n) in
      let here : get_or (range_with_len 0 n) h.0 0 ≡ h.0 = omega (arith, get_or-range_with_len 0 n h.0 0 m) in
      d.one_fails h.0 (omega arith) (sym (ap (λ j. passes (with_first order p ks f q) j s) (sym here) ∙ h.2 0))

  fewer_lack : (q r : ℕ) → q ≤ r → enough r ≡ false → enough q ≡ false
  fewer_lack q r l h = refuted (enough q) (λ e.
      both_ways (enough r) h (enough_suits order p ks f r (enough_more order p ks f q r l (suits_enough order p ks f q e))))

  pub none_least : false ≡ enough f → None ≡ least_q order p ks f
  none_least h = sym ((none_is order p ks f).1 (λ q l e. both_ways (enough q) (fewer_lack q f l (sym h)) (enough_suits order p ks f q e)))

  -- A bisection: fewer than `low` are too few, `high` are enough, and where they meet is the least q.
  pub record Bisects (low high : ℕ) : Type 0 where
    pub ordered : low ≤ high
    pub fits : high ≤ f
    pub too_few : (q : ℕ) → q < low → enough q ≡ false
    pub many : enough high ≡ true
    pub meets : high ≤ low → Some low ≡ least_q order p ks f

  bisects : (low high : ℕ) → low ≤ high → high ≤ f → ((q : ℕ) → q < low → enough q ≡ false) → enough high ≡ true → Bisects low high
  bisects low high l m h e = record {
    ordered = l;
    fits = m;
    too_few = h;
    many = e;
    meets = λ k.
        let z : high ≡ low = omega arith in
        sym ((least_is order p ks f low).1 (record {
          fits = omega arith;
          enough = suits_enough order p ks f low (ap enough (sym z) ∙ e);
          least = λ r n w. both_ways (enough r) (h r n) (enough_suits order p ks f r w);
        }));
  }

  module _ (low high middle : ℕ) (b : Bisects low high) (least : low ≤ middle) (most : middle < high) where
    pub lower_half : true ≡ enough middle → Bisects low middle
    lower_half e = bisects low middle least (omega (arith, b.fits)) b.too_few (sym e)

    pub upper_half : false ≡ enough middle → Bisects (middle + 1) high
    upper_half e = bisects (middle + 1) high (omega arith) b.fits (λ q l. fewer_lack q middle (omega arith) (sym e)) b.many
