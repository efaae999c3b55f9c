-- A tape without fault is the tape of what it holds.
use Rattle.std.proofs.Common.{◌≡◌, ℕ, zero, suc, ◌+◌, ◌-◌, ◌<◌, ◌≤◌, Bool, true, false, cond, eqb, leb, List, ◌++◌, length, get_or, drop, Some, None, Ok, Err, Option, Result, sym, refl, ap, ◌∙◌, subst, inl, inr}
use Rattle.std.proofs.lemmas.List.{get_or-append-add}
use Rattle.std.proofs.lemmas.Bool.{cond_both, cond-true, cond-false, cases_Bool, eqb-true, leb-true}
use Rattle.model.specs.Answers.{granted}
use Rattle.model.specs.WindowLists.{list_answer, overlap}
use Rattle.model.specs.Modules.{task}
use Rattle.tape.specs.declared.command.Command.{Command}
use Rattle.tape.specs.declared.command.Command.TheVariants.{Partition, Task, Frame, End}
use Rattle.tape.specs.declared.command.Turn.{Turn}
use Rattle.tape.specs.Faults.{Breach}
use Rattle.tape.specs.Commands.{bytes, encode}
use Rattle.tape.specs.Decode.{word_at, whole, operands, in_turn, admits, command}
use Rattle.tape.specs.Loading.{Progress, Contents, done, contents, nothing_read, is_end, ended, next, after_next, decode_from}
use Rattle.tape.specs.RoundTrip.{Bytes, WritesAgain}
use Rattle.tape.proofs.Reading.{Standing, standing_start, standing_next, standing_again, next_read}
use Rattle.tape.proofs.Words.{task_there, frame_there, window_there, byte_there}

-- the bytes of a command that was read stand at the front
module _ (xs : List ℕ) (fits : Bytes xs) (c : Command) (rest : List ℕ) where
  whole_there : (n : ℕ) (d : Command) → (n ≤ length xs → xs ≡ bytes d ++ drop n xs) → whole n xs d ≡ Ok (c, rest) → xs ≡ bytes c ++ rest
  whole_there n d there =
      cond_both (leb n (length xs)) _ _ (λ r. r ≡ Ok (c, rest) → xs ≡ bytes c ++ rest)
      (λ l e.
      let Read : Type 0 = Command × List ℕ in
      let t : ◌≡◌ {A = Read} (d, drop n xs) (c, rest) = cc in
      there (leb-true n (length xs) l) ∙ ap (λ p. bytes p.0 ++ p.1) t)
      (λ l e. absurd cc)

  operands_there : operands xs ≡ Ok (c, rest) → xs ≡ bytes c ++ rest
  operands_there =
      let P : Result (Command × List ℕ) ℕ → Type 0 = λ r. r ≡ Ok (c, rest) → xs ≡ bytes c ++ rest in
      let first : ℕ = get_or xs 0 0 in
      cond_both (eqb first 0x50) _ _ P (λ e. whole_there 1 Partition (λ h. byte_there xs 0x50 h (eqb-true first 0x50 e)))
      (λ _. cond_both (eqb first 0x54) _ _ P (λ e. whole_there 7 (Task (task (word_at xs 1) (word_at xs 3) (word_at xs 5))) (λ h. task_there xs h (eqb-true first 0x54 e) (fits 2) (fits 4) (fits 6)))
      (λ _. cond_both (eqb first 0x46) _ _ P (λ e. whole_there 3 (Frame (word_at xs 1)) (λ h. frame_there xs h (eqb-true first 0x46 e) (fits 2)))
      (λ _. cond_both (eqb first 0x57) _ _ P (λ e. whole_there 6 _ (λ h. window_there xs h (eqb-true first 0x57 e) (fits 3) (fits 5)))
      (λ _. cond_both (eqb first 0x45) _ _ P (λ e. whole_there 1 End (λ h. byte_there xs 0x45 h (eqb-true first 0x45 e)))
      (λ _ e. absurd cc)))))

  in_turn_there : (a : Option Bool) → in_turn a (operands xs) ≡ Ok (c, rest) → operands xs ≡ Ok (c, rest)
  in_turn_there None e = absurd cc
  in_turn_there (Some false) e = absurd cc
  in_turn_there (Some true) e = e

  pub command_bytes : (t : Turn) → command t xs ≡ Ok (c, rest) → xs ≡ bytes c ++ rest
  command_bytes t =
      cond_both (eqb (length xs) 0) _ _ (λ r. r ≡ Ok (c, rest) → xs ≡ bytes c ++ rest)
      (λ l e. absurd cc)
      (λ l e. operands_there (in_turn_there (admits t (get_or xs 0 0)) e))

  pub bytes_after : xs ≡ bytes c ++ rest → Bytes rest
  bytes_after e i =
      subst (λ v. v < 256) (ap (λ ys. get_or ys (length (bytes c) + i) 0) e ∙ get_or-append-add (bytes c) rest i 0) (fits (length (bytes c) + i))

-- what is left of a tape without fault, once its end is read
module _ (tape : List ℕ) (t : Contents) where
  Holds : Type 0
  Holds = (list_answer overlap t.frame t.windows ≡ granted tt) × (encode t.partitions t.frame t.windows ≡ tape)

  module _ (l : Progress) (xs : List ℕ) (at : Standing tape l xs) (fits : Bytes xs) where
    module _ (c : Command) (rest : List ℕ) (then : Progress) (r : next l xs ≡ Ok (c, rest, then)) where
      front : xs ≡ bytes c ++ rest
      front = command_bytes xs fits c rest l.turn (next_read l xs c rest then r)

      at_end : is_end c ≡ true → ended (length tape) then rest ≡ done t → Holds
      unfolding Holds
      at_end end =
          cond_both (eqb (length rest) 0) _ _ (λ d. d ≡ done t → (list_answer overlap t.frame t.windows ≡ granted tt) × (encode t.partitions t.frame t.windows ≡ tape))
          (λ none e.
          let same : contents then ≡ t = cc in
          let again = standing_again tape l xs at c rest then front r end (eqb-true (length rest) 0 none) in
          subst (λ t. (list_answer overlap t.frame t.windows ≡ granted tt) × (encode t.partitions t.frame t.windows ≡ tape)) same (again.2, again.0))
          (λ some e. absurd cc)

    by_next : (most : ℕ) → ((then : Progress) (rest : List ℕ) → Standing tape then rest → Bytes rest → decode_from most (length tape) then rest ≡ done t → Holds) → (r : Result (Command × List ℕ × Progress) Breach) → next l xs ≡ r → after_next (length tape - length xs) r (λ c rest then. cond (is_end c) (ended (length tape) then rest) (decode_from most (length tape) then rest)) ≡ done t → Holds
    by_next most go (Err e) q d = absurd cc
    by_next most go (Ok p) q d =
        let c = p.0 in
        let rest = p.1 in
        let then = p.2 in
        elim (cases_Bool (is_end c)) [
          | inl end ↦ at_end c rest then q end (sym (cond-true (is_end c) _ _ end) ∙ d)
          | inr on ↦ go then rest (standing_next tape l xs at c rest then (front c rest then q) q on) (bytes_after xs fits c rest (front c rest then q)) (sym (cond-false (is_end c) _ _ on) ∙ d)
        ]

  again_from : (most : ℕ) (l : Progress) (xs : List ℕ) → Standing tape l xs → Bytes xs → decode_from most (length tape) l xs ≡ done t → Holds
  again_from zero l xs at fits d = absurd cc
  again_from (suc most) l xs at fits d = by_next l xs at fits most (again_from most) (next l xs) refl d

pub writes_again : WritesAgain
unfolding Holds
writes_again xs t fits d = again_from xs t (length xs) nothing_read xs (standing_start xs) fits d
