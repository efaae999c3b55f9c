-- What a tape gives whose end has been read.
use Rattle.std.proofs.Common.{◌≡◌, ℕ, ◌+◌, ◌-◌, ◌≤◌, true, false, eqb, List, [], ◌++◌, length, get_or, IfOk, Some, None, Ok, Err, vec_items, vec_len, Option, Result, sym, ap, ◌∙◌, add-zero, arith, MatchResult}
use Rattle.std.proofs.lemmas.List.{get_or-append-add}
use Rattle.std.proofs.lemmas.Bool.{cond_both, cond-true, cond-false, eqb-true}
use Rattle.std.specs.List.{flat_map}
use Rattle.model.specs.Answers.{Gives, granted}
use Rattle.model.specs.WindowLists.{list_answer, overlap}
use Rattle.model.specs.Modules.{module_within}
use Rattle.draft.specs.Drafts.{module_of}
use Rattle.draft.proofs.Modules.{draft_within}
use Rattle.tape.specs.declared.command.Command.{Command}
use Rattle.tape.specs.declared.command.Command.TheVariants.{End}
use Rattle.tape.specs.declared.fault.CommandFault.TheVariants.{Tape}
use Rattle.tape.specs.declared.fault.TapeFault.TheVariants.{TrailingBytes}
use Rattle.tape.specs.Faults.{Breach}
use Rattle.tape.specs.declared.fault.Layer.TheVariants as layer
use Rattle.tape_reader.specs.declared.load.Load.{Load}
use Rattle.tape_reader.specs.declared.reader.ReadRefusal.{ReadRefusal}
use Rattle.tape_reader.specs.declared.reader.ReadRefusal.TheVariants.{Fault}
use Rattle.tape.specs.Commands.{bytes, encode}
use Rattle.tape.specs.Loading.{Progress, done, faulty, contents, is_end, next, decode}
use Rattle.tape_reader.specs.Loads.{progress, adds, Fails, fault_at, told_fault, MemoryWanted, whole_tape}
use Rattle.tape.proofs.Reading.{Standing, standing_offset, standing_fault, standing_end, standing_again}
use Rattle.tape.proofs.SoFar.{so_far}

-- what the reader promises of a tape that it reads aside
abbrev Loads : List ℕ → Result Load ReadRefusal → Type 0
Loads tape r = record {
  answer : MatchResult r (λ l. decode tape ≡ done (contents (progress l))) (λ e. Gives (told_fault e) (decode tape) (MemoryWanted 64 tape e));
  again : IfOk r (λ l. encode (module_of l.draft) l.frame (vec_items l.windows) ≡ tape);
  accepted : IfOk r (λ l. list_answer overlap l.frame (vec_items l.windows) ≡ granted tt);
  few : IfOk r (λ l. vec_len l.windows ≤ 64);
}

-- where the next command stands
pub load_offset : (tape : List ℕ) (load : Load) (xs : List ℕ) → Standing tape (progress load) xs → (length tape - length xs ≤ 1291) × (length xs ≤ length tape)
load_offset tape load xs at = let o = standing_offset tape (progress load) xs at (draft_within load.draft) in (o.1, o.2)

module _ (tape : List ℕ) (l : Progress) (xs : List ℕ) (at : Standing tape l xs) (c : Command) (rest : List ℕ) (load : Load) (e : xs ≡ bytes c ++ rest) (r : next l xs ≡ Ok (c, rest, progress load)) (i : c ≡ End) (w : module_within l.partitions ≡ true) where
  end : is_end c ≡ true
  end = ap is_end i

  one_byte : length xs ≡ 1 + length rest
  one_byte = ap length (e ∙ ap (λ c. bytes c ++ rest) i) ∙ omega arith

  nothing_follows : eqb (length rest) 0 ≡ true → Loads tape (Ok load)
  nothing_follows none =
      let again = standing_again tape l xs at c rest (progress load) e r end (eqb-true (length rest) 0 none) in
      record {
        answer = standing_end tape l xs at c rest (progress load) e r end ∙ cond-true (eqb (length rest) 0) _ _ none;
        again = again.0;
        accepted = again.2;
        few = omega (arith, again.1, load.windows.ok.0);
      }

  bytes_follow : eqb (length rest) 0 ≡ false → Loads tape (Err (Fault (Tape TrailingBytes) (length tape - length xs + 1)))
  bytes_follow some =
      let o = standing_offset tape l xs at w in
      let here : length tape - length xs + 1 ≡ length tape - length rest = omega (arith, one_byte, o.2) in
      record {
        answer = ap (faulty 74 [] layer.Tape) here ∙ sym (standing_end tape l xs at c rest (progress load) e r end ∙ cond-false (eqb (length rest) 0) _ _ some);
        again = tt;
        accepted = tt;
        few = tt;
      }

  pub loaded_at_end : Loads tape (whole_tape (length tape - length xs) load rest)
  loaded_at_end = cond_both (eqb (length rest) 0) _ _ (Loads tape) nothing_follows bytes_follow

-- A fault of the next command is what the tape gives; memory is wanting only where the command adds something.
pub standing_told : (tape : List ℕ) (l : Progress) (xs : List ℕ) → Standing tape l xs → module_within l.partitions ≡ true → (e : Option Breach) → Fails (adds (get_or xs 0 0) ≡ true) e (next l xs) → Gives (fault_at e (length tape - length xs)) (decode tape) ((64 ≤ 64) × (adds (get_or tape (length tape - length xs) 0) ≡ true))
standing_told tape l xs at w (Some e) f = sym (standing_fault tape l xs at e f)
standing_told tape l xs at w None f =
    let o = standing_offset tape l xs at w in
    let here : get_or tape (length tape - length xs) 0 ≡ get_or xs 0 0 =
    ap (λ k. get_or tape k 0) (o.0 ∙ sym (add-zero (length (flat_map bytes (so_far l))))) ∙ (ap (λ ys. get_or ys (length (flat_map bytes (so_far l)) + 0) 0) at.split ∙ get_or-append-add (flat_map bytes (so_far l)) xs 0 0)
    in
    (omega arith, ap adds here ∙ f)
