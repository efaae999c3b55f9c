-- The first faulty command decides.
use Rattle.std.proofs.Common.{◌≡◌, ℕ, zero, suc, ◌+◌, ◌-◌, ◌≤◌, true, false, cond, eqb, ◌⊎◌, List, [], ◌∷◌, ◌++◌, length, Ok, Err, Result, sym, refl, ap, ◌∙◌, subst, inl, inr, arith}
use Rattle.std.proofs.lemmas.List.{length-append}
use Rattle.std.proofs.lemmas.Bool.{cond_both, cond-true, cond-false, cases_Bool, eqb-false}
use Rattle.std.specs.List.{flat_map}
use Rattle.tape.specs.declared.command.Command.{Command}
use Rattle.tape.specs.declared.command.Command.TheVariants.{End}
use Rattle.tape.specs.declared.fault.Layer.{Layer}
use Rattle.tape.specs.declared.fault.Layer.TheVariants as layer
use Rattle.tape.specs.Commands.{bytes}
use Rattle.tape.specs.Faults.{Breach}
use Rattle.tape.specs.FirstFault.{follows, Plays, NextBreaks, MoreFollows, FirstFault}
use Rattle.tape.specs.Loading.{Progress, Contents, Reading, faulty, nothing_read, is_end, ended, next, after_next, decode_from}
use Rattle.tape.specs.RoundTrip.{Bytes}
use Rattle.tape.proofs.Again.{command_bytes, bytes_after}
use Rattle.tape.proofs.Commands.{follows_read}
use Rattle.tape.proofs.Plays.{plays_append}
use Rattle.tape.proofs.Reading.{Standing, standing_start, standing_next, next_read, next_obeyed, the_end, next_none, bytes_some}
use Rattle.tape.proofs.SoFar.{so_far, obeyed_adds}

split_first : (xs : List ℕ) → (length xs ≡ 0 → ⊥) → (b : ℕ) × (more : List ℕ) × (xs ≡ b ∷ more)
split_first [] e = absurd (e refl)
split_first (b ∷ more) e = (b, more, refl)

module _ (tape : List ℕ) (n : ℕ) (vs : List ℕ) (y : Layer) (o : ℕ) where
  Found : Type 0
  Found =
      (cs : List Command) × (l : Progress) × (rest : List ℕ) × Plays nothing_read cs l × (tape ≡ flat_map bytes cs ++ rest) ×
      (NextBreaks cs l rest n vs y o ⊎ MoreFollows cs l rest n vs y o)

  module _ (l : Progress) (xs : List ℕ) (at : Standing tape l xs) (fits : Bytes xs) (played : Plays nothing_read (so_far l) l) where
    offset : length tape - length xs ≡ length (flat_map bytes (so_far l))
    offset = omega (arith, ap length at.split, length-append (flat_map bytes (so_far l)) xs)

    -- the next command breaks a rule
    breaks : (e : Breach) → next l xs ≡ Err e → ◌≡◌ {A = Reading Contents} (faulty e.0 e.1 e.2 (length tape - length xs)) (faulty n vs y o) → Found
    unfolding Found
    breaks e r d =
        let number : e.0 ≡ n = cc in
        let values : e.1 ≡ vs = cc in
        let whose : e.2 ≡ y = cc in
        let here : length tape - length xs ≡ o = cc in
        let same : Err e ≡ Err (n, vs, y) =
        ap (λ k. Err (k, e.1, e.2)) number ∙ (ap (λ ws. Err (n, ws, e.2)) values ∙ ap (λ z. Err (n, vs, z)) whose)
        in
        (so_far l, l, xs, played, at.split, inl (r ∙ same, sym here ∙ offset))

    module _ (c : Command) (rest : List ℕ) (then : Progress) (r : next l xs ≡ Ok (c, rest, then)) where
      front : xs ≡ bytes c ++ rest
      front = command_bytes xs fits c rest l.turn (next_read l xs c rest then r)

      in_its_turn : follows l.turn c ≡ true
      in_its_turn = follows_read l.turn c rest xs front (next_read l xs c rest then r)

      -- the tape has ended, and more follows
      trailing : is_end c ≡ true → (length rest ≡ 0 → ⊥) → ◌≡◌ {A = Reading Contents} (faulty 74 [] layer.Tape (length tape - length rest)) (faulty n vs y o) → Found
      unfolding Found
      trailing end some d =
          let i = the_end c end in
          let first = split_first rest some in
          let turn : follows l.turn End ≡ true = ap (follows l.turn) (sym i) ∙ in_its_turn in
          let tail : xs ≡ bytes End ++ (first.0 ∷ first.1) = front ∙ (ap (λ c. bytes c ++ rest) i ∙ ap (λ ys. 0x45 ∷ ys) first.2) in
          let number : ◌≡◌ {A = ℕ} 74 n = cc in
          let values : [] ≡ vs = cc in
          let whose : layer.Tape ≡ y = cc in
          let here : length tape - length rest ≡ o = cc in
          let long : length xs ≡ 1 + length rest = ap length (front ∙ ap (λ c. bytes c ++ rest) i) ∙ omega arith in
          let there : o ≡ length (flat_map bytes (so_far l)) + 1 = omega (arith, ap length at.split, length-append (flat_map bytes (so_far l)) xs) in
          (so_far l, l, xs, played, at.split, inr (first.0, first.1, tail, turn, sym number, sym values, sym whose, there))

      at_end : is_end c ≡ true → ended (length tape) then rest ≡ faulty n vs y o → Found
      at_end end =
          cond_both (eqb (length rest) 0) _ _ (λ d. d ≡ faulty n vs y o → Found)
          (λ none d. absurd cc)
          (λ some d. trailing end (eqb-false (length rest) 0 some) d)

      -- one command more was obeyed
      one_more : is_end c ≡ false → Plays nothing_read (so_far then) then
      one_more on =
          let a = obeyed_adds l at.orderly at.few at.accepted c then in_its_turn on (next_obeyed l xs c rest then r) in
          subst (λ cs. Plays nothing_read cs then) (sym a.one_more) (plays_append (so_far l) (c ∷ []) nothing_read l then played (in_its_turn, on, (then, next_obeyed l xs c rest then r, refl)))

    by_next : (most : ℕ) → length xs ≤ suc most → ((then : Progress) (rest : List ℕ) → length rest ≤ most → Standing tape then rest → Bytes rest → Plays nothing_read (so_far then) then → decode_from most (length tape) then rest ≡ faulty n vs y o → Found) → (r : Result (Command × List ℕ × Progress) Breach) → next l xs ≡ r → after_next (length tape - length xs) r (λ c rest then. cond (is_end c) (ended (length tape) then rest) (decode_from most (length tape) then rest)) ≡ faulty n vs y o → Found
    by_next most h go (Err e) q d = breaks e q d
    by_next most h go (Ok p) q d =
        let c = p.0 in
        let rest = p.1 in
        let then = p.2 in
        let f = front c rest then q in
        elim (cases_Bool (is_end c)) [
          | inl end ↦ at_end c rest then q end (sym (cond-true (is_end c) _ _ end) ∙ d)
          | inr on ↦ go then rest (omega (arith, bytes_some c rest, ap length f)) (standing_next tape l xs at c rest then f q on) (bytes_after xs fits c rest f) (one_more c rest then q on) (sym (cond-false (is_end c) _ _ on) ∙ d)
        ]

  fault_from : (most : ℕ) (l : Progress) (xs : List ℕ) → length xs ≤ most → Standing tape l xs → Bytes xs → Plays nothing_read (so_far l) l → decode_from most (length tape) l xs ≡ faulty n vs y o → Found
  fault_from zero l xs h at fits played d = breaks l xs at fits played (71, [], layer.Tape) (next_none l xs (omega arith)) d
  fault_from (suc most) l xs h at fits played d = by_next l xs at fits played most h (fault_from most) (next l xs) refl d

pub first_fault : FirstFault
unfolding Found
first_fault xs n vs y o fits d = fault_from xs n vs y o (length xs) nothing_read xs (omega arith) (standing_start xs) fits refl d
