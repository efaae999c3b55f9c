-- Numbers in two bytes, and the bytes of a command at the front of a tape.
use Rattle.std.proofs.Common.{◌≡◌, ℕ, ◌+◌, ◌*◌, ◌/◌, ◌%◌, ◌<◌, ◌≤◌, List, [], ◌∷◌, ◌++◌, length, get_or, drop, sym, ap, ◌∙◌, arith}
use Rattle.std.proofs.lemmas.List.{drop_more}
use Rattle.model.specs.Modules.{task}
use Rattle.tape.specs.declared.command.Command.TheVariants.{Task, Frame, Window}
use Rattle.tape.specs.Commands.{word, bytes}
use Rattle.tape.specs.Decode.{word_at}

word_of : (h l : ℕ) → l < 256 → word (256 * h + l) ≡ h ∷ (l ∷ [])
word_of h l f =
    let q : (256 * h + l) / 256 ≡ h = omega arith in
    let r : (256 * h + l) % 256 ≡ l = omega arith in
    cc

module _ (xs : List ℕ) where
  -- the number that stands at place i, and what follows it
  word_there : (i : ℕ) → i + 2 ≤ length xs → get_or xs (i + 1) 0 < 256 → drop i xs ≡ word (word_at xs i) ++ drop (i + 2) xs
  word_there i h f =
      let a = drop_more xs i 0 (omega arith) in
      let b = drop_more xs (i + 1) 0 (omega arith) in
      let n : i + 1 + 1 ≡ i + 2 = omega arith in
      a ∙ (ap (λ ys. get_or xs i 0 ∷ ys) b ∙ (ap (λ k. get_or xs i 0 ∷ (get_or xs (i + 1) 0 ∷ drop k xs)) n ∙ ap (λ ws. ws ++ drop (i + 2) xs) (sym (word_of (get_or xs i 0) (get_or xs (i + 1) 0) f))))

  pub task_there : 7 ≤ length xs → get_or xs 0 0 ≡ 0x54 → get_or xs 2 0 < 256 → get_or xs 4 0 < 256 → get_or xs 6 0 < 256 → xs ≡ bytes (Task (task (word_at xs 1) (word_at xs 3) (word_at xs 5))) ++ drop 7 xs
  task_there h e c t d =
      drop_more xs 0 0 (omega arith)
      ∙ (ap (λ b. b ∷ drop 1 xs) e
      ∙ ap (λ ys. 0x54 ∷ ys) (word_there 1 (omega arith) c ∙ ap (λ ys. word (word_at xs 1) ++ ys) (word_there 3 (omega arith) t ∙ ap (λ ys. word (word_at xs 3) ++ ys) (word_there 5 (omega arith) d))))

  pub frame_there : 3 ≤ length xs → get_or xs 0 0 ≡ 0x46 → get_or xs 2 0 < 256 → xs ≡ bytes (Frame (word_at xs 1)) ++ drop 3 xs
  frame_there h e f =
      drop_more xs 0 0 (omega arith) ∙ (ap (λ b. b ∷ drop 1 xs) e ∙ ap (λ ys. 0x46 ∷ ys) (word_there 1 (omega arith) f))

  pub window_there : 6 ≤ length xs → get_or xs 0 0 ≡ 0x57 → get_or xs 3 0 < 256 → get_or xs 5 0 < 256 → xs ≡ bytes (Window (record { partition = get_or xs 1 0; start = word_at xs 2; length = word_at xs 4 })) ++ drop 6 xs
  window_there h e s l =
      drop_more xs 0 0 (omega arith)
      ∙ (ap (λ b. b ∷ drop 1 xs) e
      ∙ ap (λ ys. 0x57 ∷ ys) (drop_more xs 1 0 (omega arith) ∙ ap (λ ys. get_or xs 1 0 ∷ ys) (word_there 2 (omega arith) s ∙ ap (λ ys. word (word_at xs 2) ++ ys) (word_there 4 (omega arith) l))))

  -- a command of one byte
  pub byte_there : (b : ℕ) → 1 ≤ length xs → get_or xs 0 0 ≡ b → xs ≡ b ∷ drop 1 xs
  byte_there b h e = drop_more xs 0 0 (omega arith) ∙ ap (λ a. a ∷ drop 1 xs) e
