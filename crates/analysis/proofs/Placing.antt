-- Ticks and the places they fall on.
use Rattle.std.proofs.Common.{◌≡◌, ℕ, ◌%◌, ◌<◌, false, get_or, sym, ap, ◌∙◌, mod-eq_of_lt}
use native.Mathlib.Nat.{add-mod_right, mod-mod}
use Rattle.model.specs.Orders.{Order}
use Rattle.model.specs.SupplyFacts.{Repeats}
use Rattle.analysis.specs.declared.partition.Partition.{Partition}
use Rattle.analysis.specs.declared.places.Places.{Places}
use Rattle.analysis.specs.Partitions.{seen}
use Rattle.analysis.specs.Places.{ticks_of}

module _ (places : Places) where
  -- a tick is owned if its place is
  pub place_ticks : (x u : ℕ) → x ≡ u % places.frame → ticks_of places x ≡ ticks_of places u
  place_ticks x u e = ap (λ y. get_or places.owned (y % places.frame) false) e ∙ ap (λ y. get_or places.owned y false) (mod-mod u places.frame)

  pub place_owned : (x : ℕ) → x < places.frame → get_or places.owned x false ≡ ticks_of places x
  place_owned x l = ap (λ y. get_or places.owned y false) (sym (mod-eq_of_lt l))

-- the ticks come round
pub ticks_again : {O : Type 0} (p : Partition O) (meaning : O → Order) → Repeats (seen meaning p) p.places.now.frame
ticks_again p meaning = (p.places.now.framed.0, λ u. ap (λ y. get_or p.places.now.owned y false) (add-mod_right u p.places.now.frame))
