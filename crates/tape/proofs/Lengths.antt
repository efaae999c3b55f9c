-- How long tapes are: at most 1,292 bytes.
use Rattle.std.proofs.Common.{◌≡◌, ℕ, ◌+◌, ◌*◌, ◌≤◌, true, leb, List, [], ◌∷◌, ◌++◌, map, length, sum_by, refl, ap, ◌∙◌, arith}
use Rattle.std.proofs.lemmas.List.{length-append}
use Rattle.std.proofs.lemmas.List.Sums.{sum_by-cons}
use Rattle.std.proofs.lemmas.Bool.{and_parts, leb-true}
use Rattle.std.proofs.lemmas.List.Concat.{flat_map-append}
use Rattle.std.specs.List.{flat_map}
use Rattle.model.specs.declared.task.Task.{Task as ModelTask}
use Rattle.model.specs.declared.window.Window.{Window as ModelWindow}
use Rattle.model.specs.Modules.{Module, all_within, partition_within, partitions_within, module_within}
use Rattle.tape.specs.declared.command.Command.TheVariants.{Task, Frame, Window, End}
use Rattle.tape.specs.declared.command.Turn.{Turn}
use Rattle.tape.specs.declared.command.Turn.TheVariants.{Start, AfterPartition, AfterTask, AfterFrame}
use Rattle.tape.specs.Commands.{bytes, partition_commands, encode}
use Rattle.tape.specs.Loading.{Progress}
use Rattle.tape.proofs.SoFar.{framed, so_far}

-- the bytes of the partitions: one for each, and seven for each task
abbrev pub partitions_size : Module → ℕ
partitions_size m = sum_by (λ ks. 1 + 7 * length ks) m

one_more : (ks : List ModelTask) (m : Module) → partitions_size (ks ∷ m) ≡ 1 + 7 * length ks + partitions_size m
one_more ks m = sum_by-cons (λ ks. 1 + 7 * length ks) ks m

tasks_length : (ks : List ModelTask) → length (flat_map bytes (map Task ks)) ≡ 7 * length ks
tasks_length [] = refl
tasks_length (k ∷ ks) = let e = tasks_length ks in omega arith

pub partition_length : (ks : List ModelTask) → length (flat_map bytes (partition_commands ks)) ≡ 1 + 7 * length ks
partition_length ks = let e = tasks_length ks in omega arith

pub partitions_length : (m : Module) → length (flat_map bytes (flat_map partition_commands m)) ≡ partitions_size m
partitions_length [] = refl
partitions_length (ks ∷ m) =
    ap length (flat_map-append bytes (partition_commands ks) (flat_map partition_commands m))
    ∙ (length-append (flat_map bytes (partition_commands ks)) (flat_map bytes (flat_map partition_commands m))
    ∙ omega (arith, partition_length ks, partitions_length m, one_more ks m))

pub windows_length : (ws : List ModelWindow) → length (flat_map bytes (map Window ws)) ≡ 6 * length ws
windows_length [] = refl
windows_length (w ∷ ws) = let e = windows_length ws in omega arith

pub encode_length : (m : Module) (f : ℕ) (ws : List ModelWindow) → length (encode m f ws) ≡ partitions_size m + (3 + (6 * length ws + 1))
encode_length m f ws =
    let a = flat_map-append bytes (flat_map partition_commands m) (Frame f ∷ (map Window ws ++ (End ∷ []))) in
    let b = flat_map-append bytes (map Window ws) (End ∷ []) in
    let c = length-append (flat_map bytes (map Window ws)) (0x45 ∷ []) in
    ap length a
    ∙ (length-append (flat_map bytes (flat_map partition_commands m)) (flat_map bytes (Frame f ∷ (map Window ws ++ (End ∷ []))))
    ∙ omega (arith, partitions_length m, windows_length ws, ap length b, c))

pub partitions_short : (m : Module) → partitions_within m ≡ true → partitions_size m ≤ 113 * length m
partitions_short [] p = omega arith
partitions_short (ks ∷ m) p =
    let both = and_parts (partition_within ks) (partitions_within m) p in
    let l = leb-true (length ks) 16 (and_parts (leb (length ks) 16) (all_within ks) both.0).0 in
    omega (arith, partitions_short m both.1, l, one_more ks m)

framed_short : (t : Turn) (f : ℕ) (ws : List ModelWindow) → length (flat_map bytes (framed t f ws)) ≤ 3 + 6 * length ws
framed_short Start f ws = omega arith
framed_short AfterPartition f ws = omega arith
framed_short AfterTask f ws = omega arith
framed_short AfterFrame f ws = omega (arith, windows_length ws)

pub module_short : (m : Module) → module_within m ≡ true → partitions_size m ≤ 904
module_short m w =
    let both = and_parts (leb (length m) 8) (partitions_within m) w in
    omega (arith, partitions_short m both.1, leb-true (length m) 8 both.0)

-- the longest tape has 1,292 bytes
pub encode_short : (m : Module) (f : ℕ) (ws : List ModelWindow) → module_within m ≡ true → length ws ≤ 64 → length (encode m f ws) ≤ 1292
encode_short m f ws w h = omega (arith, encode_length m f ws, module_short m w)

-- what has been read before the end is shorter
pub so_far_short : (l : Progress) → module_within l.partitions ≡ true → length l.windows ≤ 64 → length (flat_map bytes (so_far l)) ≤ 1291
so_far_short l w h =
    let a = flat_map-append bytes (flat_map partition_commands l.partitions) (framed l.turn l.frame l.windows) in
    let b = length-append (flat_map bytes (flat_map partition_commands l.partitions)) (flat_map bytes (framed l.turn l.frame l.windows)) in
    omega (arith, ap length a, b, partitions_length l.partitions, module_short l.partitions w, framed_short l.turn l.frame l.windows)
