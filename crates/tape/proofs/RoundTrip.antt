-- The round trip, both ways.
use Rattle.std.proofs.Common.{◌≡◌, ℕ, suc, ◌+◌, ◌-◌, ◌≤◌, true, cond, leb, List, [], ◌∷◌, ◌++◌, map, length, Some, None, Ok, sym, refl, ap, ◌∙◌, zero-add, arith}
use Rattle.std.proofs.lemmas.List.{append_assoc, length-append}
use Rattle.std.proofs.lemmas.Bool.{and_parts, cond-false, leb-true}
use Rattle.std.proofs.lemmas.List.Concat.{flat_map-append}
use Rattle.std.specs.List.{flat_map}
use Rattle.model.specs.declared.window.Window.{Window as ModelWindow}
use Rattle.model.specs.Answers.{granted, and_then}
use Rattle.model.specs.Modules.{Module, partitions_within, module_within}
use Rattle.model.specs.WindowLists.{overlap, frame_answer, count_answer, windows_answer, list_answer}
use Rattle.tape.specs.declared.command.Command.{Command}
use Rattle.tape.specs.declared.command.Command.TheVariants.{Frame, Window, End}
use Rattle.tape.specs.declared.command.Turn.TheVariants.{Start, AfterFrame}
use Rattle.tape.specs.declared.fault.Layer.TheVariants.{Windows}
use Rattle.tape.specs.Commands.{bytes, partition_commands, encode}
use Rattle.tape.specs.Decode.{in_turn}
use Rattle.tape.specs.Loading.{Progress, done, nothing_read, obeyed, is_end, ended, after_obeyed, after_bytes, next, after_next, decode_from, decode}
use Rattle.tape.specs.RoundTrip.{ReadsBack, Short}
use Rattle.windows.proofs.Lists.{both_granted}
use Rattle.tape.specs.FirstFault.{follows, Plays}
use Rattle.tape.proofs.Commands.{command_there}
use Rattle.tape.proofs.Lengths.{encode_short}
use Rattle.tape.proofs.Plays.{plays_append, reads, granted_ok, after_partitions, still_before_all, partitions_play, windows_play}
use Rattle.tape.proofs.Reading.{bytes_some}
use Rattle.tape.proofs.SoFar.{count_kept}

-- Commands that are obeyed one after another are read from their bytes.

next_there : (l mid : Progress) (c : Command) (more : List ℕ) → follows l.turn c ≡ true → obeyed l c ≡ Ok mid → next l (bytes c ++ more) ≡ Ok (c, more, mid)
next_there l mid c more f o =
    ap (after_bytes l) (command_there l.turn c more ∙ ap (λ b. in_turn (Some b) (Ok (c, more))) f) ∙ ap (after_obeyed c more) o

decode_plays : (cs : List Command) (l then : Progress) → Plays l cs then → (most n : ℕ) (more : List ℕ) → decode_from (length cs + most) n l (flat_map bytes cs ++ more) ≡ decode_from most n then more
decode_plays [] l then p most n more = ap (λ k. decode_from k n l more) (zero-add most) ∙ ap (λ l. decode_from most n l more) p
decode_plays (c ∷ cs) l then p most n more =
    let rest : List ℕ = flat_map bytes cs ++ more in
    let xs : List ℕ = flat_map bytes (c ∷ cs) ++ more in
    let apart : xs ≡ bytes c ++ rest = append_assoc (bytes c) (flat_map bytes cs) more in
    let k : length (c ∷ cs) + most ≡ suc (length cs + most) = omega arith in
    ap (λ k. decode_from k n l xs) k
    ∙ (ap (decode_from (suc (length cs + most)) n l) apart
    ∙ (ap (λ r. after_next (n - length (bytes c ++ rest)) r (λ c rest then. cond (is_end c) (ended n then rest) (decode_from (length cs + most) n then rest))) (next_there l p.2.0 c rest p.0 p.2.1)
    ∙ (cond-false (is_end c) _ _ p.1
    ∙ decode_plays cs p.2.0 then p.2.2 most n more)))

-- a command has a byte at least
commands_bytes : (cs : List Command) → length cs ≤ length (flat_map bytes cs)
commands_bytes [] = omega arith
commands_bytes (c ∷ cs) = let h = commands_bytes cs in let k = bytes_some c (flat_map bytes cs) in omega arith

-- The parts of a granted window list.
module _ (m : Module) (f : ℕ) (ws : List ModelWindow) (within : module_within m ≡ true) (accepted : list_answer overlap f ws ≡ granted tt) where
  frame_granted : (u : Unit {0}) × (frame_answer f ≡ granted u)
  frame_granted = (both_granted (frame_answer f) (and_then (count_answer (length ws)) (windows_answer overlap f 0 None ws)) tt accepted).0

  rest_granted : and_then (count_answer (length ws)) (windows_answer overlap f 0 None ws) ≡ granted tt
  rest_granted = (both_granted (frame_answer f) (and_then (count_answer (length ws)) (windows_answer overlap f 0 None ws)) tt accepted).1

  few : length ws ≤ 64
  few = count_kept (length ws) (windows_answer overlap f 0 None ws) tt rest_granted

  windows_granted : windows_answer overlap f 0 None ws ≡ granted tt
  windows_granted = (both_granted (count_answer (length ws)) (windows_answer overlap f 0 None ws) tt rest_granted).1

  -- all commands but the end
  before_end : List Command
  before_end = flat_map partition_commands m ++ (Frame f ∷ map Window ws)

  module_plays : Plays nothing_read before_end (reads m f ws AfterFrame)
  unfolding before_end
  module_plays =
      let both = and_parts (leb (length m) 8) (partitions_within m) within in
      let parts = partitions_play 0 [] [] m Start refl (omega (arith, leb-true (length m) 8 both.0)) both.1 in
      let list = windows_play m f [] ws (omega (arith, few)) windows_granted in
      plays_append (flat_map partition_commands m) (Frame f ∷ map Window ws) nothing_read (reads m 0 [] (after_partitions 0 [] Start m)) (reads m f ws AfterFrame) parts
      (still_before_all 0 [] Start m refl, refl, (reads m f [] AfterFrame, granted_ok Windows _ _ _ frame_granted.1, list))

  encode_parts : encode m f ws ≡ flat_map bytes before_end ++ (0x45 ∷ [])
  unfolding before_end
  encode_parts =
      ap (flat_map bytes) (sym (append_assoc (flat_map partition_commands m) (Frame f ∷ map Window ws) (End ∷ []))) ∙ flat_map-append bytes before_end (End ∷ [])

  pub reads_back_as : decode (encode m f ws) ≡ done (record { partitions = m; frame = f; windows = ws })
  reads_back_as =
      let n = length (encode m f ws) in
      let long = commands_bytes before_end in
      let most = length (flat_map bytes before_end) - length before_end in
      let fuel : n ≡ length before_end + suc most = ap length encode_parts ∙ (length-append (flat_map bytes before_end) (0x45 ∷ []) ∙ omega arith) in
      ap (λ k. decode_from k n nothing_read (encode m f ws)) fuel
      ∙ (ap (decode_from (length before_end + suc most) n nothing_read) encode_parts
      ∙ (decode_plays before_end nothing_read (reads m f ws AfterFrame) module_plays (suc most) n (0x45 ∷ [])
      ∙ ap (λ r. after_next (n - 1) r (λ c rest then. cond (is_end c) (ended n then rest) (decode_from most n then rest))) (next_there (reads m f ws AfterFrame) (reads m f ws AfterFrame) End [] refl refl)))

  pub short_enough : length (encode m f ws) ≤ 1292
  short_enough = encode_short m f ws within few

pub reads_back : ReadsBack
reads_back m f ws within accepted = reads_back_as m f ws within accepted

pub short : Short
short m f ws within accepted = short_enough m f ws within accepted
