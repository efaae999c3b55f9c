-- The listed order, the deadline order and tables of ranks keep the law of orders.
use Rattle.std.proofs.Common.{◌≡◌, ℕ, ◌<◌, arith}
use Rattle.std.proofs.lemmas.Bool.Decides.{nat_tests}
use Rattle.model.specs.Orders.{LawfulOrder, OrdersAreLawful, by_deadline, by_rank, listed}

listed_lawful : LawfulOrder listed
listed_lawful = record {
  irreflexive = λ p a. grind (arith, nat_tests);
  transitive = λ p a b c h k. grind (arith, nat_tests);
  one_first = λ p a b l x y d. grind (arith, nat_tests);
}

deadline_lawful : LawfulOrder by_deadline
deadline_lawful = record {
  irreflexive = λ p a. grind (arith, nat_tests);
  transitive = λ p a b c h k. grind (arith, nat_tests);
  one_first = λ p a b l x y d. grind (arith, nat_tests);
}

rank_lawful : (rank : ℕ → ℕ → ℕ) → ((p i j : ℕ) → p < 8 → i < 16 → j < 16 → rank p i ≡ rank p j → i ≡ j) → LawfulOrder (by_rank rank)
rank_lawful rank apart = record {
  irreflexive = λ p a. grind (arith, nat_tests);
  transitive = λ p a b c h k. grind (arith, nat_tests);
  one_first = λ p a b l x y d.
      let e : rank p a.number ≡ rank p b.number → ⊥ = λ z. d (apart p a.number b.number l x.0 y.0 z) in
      grind (arith, nat_tests, e);
}

pub orders_lawful : OrdersAreLawful
orders_lawful = record { by_number = listed_lawful; by_deadlines = deadline_lawful; by_ranks = rank_lawful }
