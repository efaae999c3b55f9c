-- One command after another: what is left of a tape decides what it gives.
use Rattle.std.proofs.Common.{◌≡◌, ℕ, zero, suc, ◌-◌, ◌<◌, ◌≤◌, true, false, cond, eqb, leb, List, [], ◌∷◌, ◌++◌, length, get_or, None, Ok, Err, Result, sym, refl, ap, ◌∙◌, subst, arith}
use Rattle.std.proofs.lemmas.List.{append_assoc, append-nil, length-append, nil_from_length}
use Rattle.std.proofs.lemmas.Bool.{cond-true, cond-false, eq-eqb, le-leb, false≢true}
use Rattle.std.proofs.lemmas.List.Concat.{flat_map-append}
use Rattle.std.specs.List.{flat_map}
use Rattle.model.specs.declared.window.Window.{Window as ModelWindow}
use Rattle.model.specs.Answers.{granted}
use Rattle.model.specs.WindowLists.{overlap, frame_answer, count_answer, windows_answer, list_answer}
use Rattle.model.specs.Modules.{Module, module_within}
use Rattle.tape.specs.declared.command.Command.{Command}
use Rattle.tape.specs.declared.command.Command.TheVariants.{Partition, Task, Frame, Window, End}
use Rattle.tape.specs.declared.command.Turn.{Turn}
use Rattle.tape.specs.Faults.{Breach}
use Rattle.tape.specs.declared.fault.Layer.TheVariants.{Tape}
use Rattle.tape.specs.Commands.{bytes, partition_commands, commands, encode}
use Rattle.tape.specs.Decode.{command, in_turn, admits, operands, after_frame}
use Rattle.tape.specs.Loading.{Progress, faulty, nothing_read, obeyed, is_end, ended, after_obeyed, after_bytes, next, after_next, decode_from, decode}
use Rattle.windows.proofs.Lists.{list_by_windows}
use Rattle.tape.specs.FirstFault.{follows}
use Rattle.tape.proofs.Commands.{follows_read}
use Rattle.tape.proofs.Lengths.{so_far_short}
use Rattle.tape.proofs.SoFar.{framed, the_frame, so_far, Orderly, Accepted, accepted_so_far, obeyed_adds}

-- A command that was read and obeyed was read, and was obeyed.

Parts : Progress → Command → List ℕ → Progress → Result (Command × List ℕ) ℕ → Type 0
Parts l c rest then r = (r ≡ Ok (c, rest)) × (obeyed l c ≡ Ok then)

obeyed_part : (c d : Command) (xs ys : List ℕ) (then : Progress) (q : Result Progress Breach) → after_obeyed c xs q ≡ Ok (d, ys, then) → (c ≡ d) × (xs ≡ ys) × (q ≡ Ok then)
obeyed_part c d xs ys then (Ok l) e =
    let Read : Type 0 = Command × List ℕ × Progress in
    let t : ◌≡◌ {A = Read} (c, xs, l) (d, ys, then) = cc in
    (ap (λ p. p.0) t, ap (λ p. p.1) t, ap (λ p. Ok p.2) t)
obeyed_part c d xs ys then (Err f) e = absurd cc

parts : (l : Progress) (c : Command) (rest : List ℕ) (then : Progress) (r : Result (Command × List ℕ) ℕ) → after_bytes l r ≡ Ok (c, rest, then) → Parts l c rest then r
unfolding Parts
parts l c rest then (Ok p) e =
    let s = obeyed_part p.0 c p.1 rest then (obeyed l p.0) e in
    (ap (λ d. Ok (d, p.1)) s.0 ∙ ap (λ ys. Ok (c, ys)) s.1, ap (obeyed l) (sym s.0) ∙ s.2)
parts l c rest then (Err k) e = absurd cc

module _ (l : Progress) (xs : List ℕ) (c : Command) (rest : List ℕ) (then : Progress) (r : next l xs ≡ Ok (c, rest, then)) where
  pub next_read : command l.turn xs ≡ Ok (c, rest)
  unfolding Parts
  next_read = (parts l c rest then (command l.turn xs) r).0

  pub next_obeyed : obeyed l c ≡ Ok then
  unfolding Parts
  next_obeyed = (parts l c rest then (command l.turn xs) r).1

pub next_none : (l : Progress) (xs : List ℕ) → length xs ≡ 0 → next l xs ≡ Err (71, [], Tape)
next_none l xs h = ap (after_bytes l) (cond-true (eqb (length xs) 0) (Err 71) (in_turn (admits l.turn (get_or xs 0 0)) (operands xs)) (eq-eqb (length xs) 0 h))

pub bytes_some : (c : Command) (more : List ℕ) → length more < length (bytes c ++ more)
bytes_some Partition more = omega arith
bytes_some (Task k) more = omega arith
bytes_some (Frame f) more = omega arith
bytes_some (Window w) more = omega arith
bytes_some End more = omega arith

-- What decode_from gives, by the next command.
module _ (n : ℕ) (l : Progress) (xs : List ℕ) where
  pub decode_fault : (most : ℕ) (e : Breach) → length xs ≤ most → next l xs ≡ Err e → decode_from most n l xs ≡ faulty e.0 e.1 e.2 (n - length xs)
  decode_fault zero e h r = let f : Err (71, [], Tape) ≡ Err e = sym (next_none l xs (omega arith)) ∙ r in cc
  decode_fault (suc most) e h r = ap (λ r. after_next (n - length xs) r (λ c rest then. cond (is_end c) (ended n then rest) (decode_from most n then rest))) r

  module _ (c : Command) (rest : List ℕ) (then : Progress) (e : xs ≡ bytes c ++ rest) (r : next l xs ≡ Ok (c, rest, then)) where
    decode_next : (most : ℕ) → length xs ≤ most → (less : ℕ) × (length rest ≤ less) × (decode_from most n l xs ≡ cond (is_end c) (ended n then rest) (decode_from less n then rest))
    decode_next zero h = absurd (omega (arith, bytes_some c rest, ap length e))
    decode_next (suc most) h =
        (most, omega (arith, bytes_some c rest, ap length e), ap (λ r. after_next (n - length xs) r (λ c rest then. cond (is_end c) (ended n then rest) (decode_from most n then rest))) r)

-- Where reading stands: xs is left of a tape, the bytes before it are those of the commands read, and what is left
-- decides what the tape gives.
pub record Standing (tape : List ℕ) (l : Progress) (xs : List ℕ) : Type 0 where
  pub split : tape ≡ flat_map bytes (so_far l) ++ xs
  pub orderly : Orderly l.turn l.partitions l.windows
  pub few : length l.windows ≤ 64
  pub accepted : Accepted l.turn l.frame l.windows
  pub decides : (most : ℕ) × (length xs ≤ most) × (decode_from most (length tape) l xs ≡ decode tape)

pub standing_start : (tape : List ℕ) → Standing tape nothing_read tape
standing_start tape = record { split = refl; orderly = refl; few = omega arith; accepted = tt; decides = (length tape, omega arith, refl) }

one_more_byte : (cs : List Command) (c : Command) (more : List ℕ) → flat_map bytes (cs ++ (c ∷ [])) ++ more ≡ flat_map bytes cs ++ (bytes c ++ more)
one_more_byte cs c more = simp (flat_map-append, append-nil, append_assoc)

pub the_end : (c : Command) → is_end c ≡ true → c ≡ End
the_end Partition e = absurd (false≢true e)
the_end (Task k) e = absurd (false≢true e)
the_end (Frame f) e = absurd (false≢true e)
the_end (Window w) e = absurd (false≢true e)
the_end End e = refl

pub no_end : (c : Command) → (c ≡ End → ⊥) → is_end c ≡ false
no_end Partition n = refl
no_end (Task k) n = refl
no_end (Frame f) n = refl
no_end (Window w) n = refl
no_end End n = absurd (n refl)

list_accepted : (f : ℕ) (ws : List ModelWindow) → length ws ≤ 64 → (frame_answer f ≡ granted tt) × (windows_answer overlap f 0 None ws ≡ granted tt) → list_answer overlap f ws ≡ granted tt
list_accepted f ws h a =
    let count : count_answer (length ws) ≡ granted tt = cond-true (leb (length ws) 64) _ _ (le-leb (length ws) 64 h) in
    list_by_windows overlap f ws (sym a.0) (sym count) ∙ a.1

all_commands : (m : Module) (f : ℕ) (ws : List ModelWindow) (t : Turn) → after_frame t ≡ true → commands m f ws ≡ (flat_map partition_commands m ++ framed t f ws) ++ (End ∷ [])
all_commands m f ws t a = rw (the_frame t f ws a) (simp append_assoc)

module _ (tape : List ℕ) (l : Progress) (xs : List ℕ) (at : Standing tape l xs) where
  -- the offset of what is left
  pub standing_offset : module_within l.partitions ≡ true → (length tape - length xs ≡ length (flat_map bytes (so_far l))) × (length tape - length xs ≤ 1291) × (length xs ≤ length tape)
  standing_offset w =
      let e = ap length at.split in
      let a = length-append (flat_map bytes (so_far l)) xs in
      let s = so_far_short l w at.few in
      (omega arith, omega arith, omega arith)

  pub standing_fault : (e : Breach) → next l xs ≡ Err e → decode tape ≡ faulty e.0 e.1 e.2 (length tape - length xs)
  standing_fault e r = sym at.decides.2 ∙ decode_fault (length tape) l xs at.decides.0 e at.decides.1 r

  module _ (c : Command) (rest : List ℕ) (then : Progress) (e : xs ≡ bytes c ++ rest) (r : next l xs ≡ Ok (c, rest, then)) where
    in_its_turn : follows l.turn c ≡ true
    in_its_turn = follows_read l.turn c rest xs e (next_read l xs c rest then r)

    pub standing_next : is_end c ≡ false → Standing tape then rest
    standing_next no_end =
        let a = obeyed_adds l at.orderly at.few at.accepted c then in_its_turn no_end (next_obeyed l xs c rest then r) in
        let d = decode_next (length tape) l xs c rest then e r at.decides.0 at.decides.1 in
        record {
          split = at.split ∙ (ap (λ ys. flat_map bytes (so_far l) ++ ys) e ∙ (sym (one_more_byte (so_far l) c rest) ∙ ap (λ cs. flat_map bytes cs ++ rest) (sym a.one_more)));
          orderly = a.orderly;
          few = a.few;
          accepted = a.accepted;
          decides = (d.0, d.1, sym (cond-false (is_end c) _ _ no_end) ∙ (sym d.2 ∙ at.decides.2));
        }

    pub standing_end : is_end c ≡ true → decode tape ≡ ended (length tape) then rest
    standing_end end =
        let d = decode_next (length tape) l xs c rest then e r at.decides.0 at.decides.1 in
        sym at.decides.2 ∙ (d.2 ∙ cond-true (is_end c) _ _ end)

    -- at the end, what has been read is the tape
    pub standing_again : is_end c ≡ true → length rest ≡ 0 → (encode then.partitions then.frame then.windows ≡ tape) × (length then.windows ≤ 64) × (list_answer overlap then.frame then.windows ≡ granted tt)
    standing_again end none =
        let i = the_end c end in
        let f : after_frame l.turn ≡ true = ap (follows l.turn) (sym i) ∙ in_its_turn in
        let o : Ok l ≡ Ok then = ap (obeyed l) (sym i) ∙ next_obeyed l xs c rest then r in
        let s : l ≡ then = cc in
        let t : tape ≡ encode l.partitions l.frame l.windows =
        at.split ∙ (ap (λ ys. flat_map bytes (so_far l) ++ ys) (e ∙ (ap (λ c. bytes c ++ rest) i ∙ ap (λ ys. 0x45 ∷ ys) (nil_from_length rest none)))
        ∙ (sym (one_more_byte (so_far l) End []) ∙ (append-nil (flat_map bytes (so_far l ++ (End ∷ []))) ∙ ap (flat_map bytes) (sym (all_commands l.partitions l.frame l.windows l.turn f)))))
        in
        let list = list_accepted l.frame l.windows at.few (accepted_so_far l.turn l.frame l.windows f at.accepted) in
        subst (λ p. (encode p.partitions p.frame p.windows ≡ tape) × (length p.windows ≤ 64) × (list_answer overlap p.frame p.windows ≡ granted tt)) s (sym t, at.few, list)
