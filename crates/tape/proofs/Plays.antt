-- A module's commands are obeyed one after another, and leave the module.
use Rattle.std.proofs.Common.{◌≡◌, ℕ, ◌+◌, ◌-◌, ◌<◌, ◌≤◌, true, ltb, leb, List, [], ◌∷◌, ◌++◌, map, length, get_or, Some, Ok, sym, refl, ap, ◌∙◌, subst, arith}
use Rattle.std.proofs.lemmas.List.{append_assoc, append-nil, length-append, get_or_at}
use Rattle.std.proofs.lemmas.Option.{slice_get-get_or}
use Rattle.std.proofs.lemmas.Bool.{and_parts, cond-true, lt-ltb, le-leb, leb-true}
use Rattle.std.specs.List.{flat_map}
use Rattle.model.specs.declared.task.Task.{Task as ModelTask}
use Rattle.model.specs.declared.window.Window.{Window as ModelWindow}
use Rattle.model.specs.Answers.{Answer, granted, and_then}
use Rattle.model.specs.Modules.{Module, within_limits, all_within, partition_within, partitions_within}
use Rattle.model.specs.WindowLists.{overlap, count_answer, window_answer, windows_answer}
use Rattle.draft.specs.Drafts.{partition_answer, task_answer, task_answer_in, with_partition}
use Rattle.tape.specs.declared.command.Command.{Command}
use Rattle.tape.specs.declared.command.Command.TheVariants.{Task, Window}
use Rattle.tape.specs.declared.command.Turn.{Turn}
use Rattle.tape.specs.declared.command.Turn.TheVariants.{AfterPartition, AfterTask, AfterFrame}
use Rattle.tape.specs.declared.fault.Layer.{Layer}
use Rattle.tape.specs.declared.fault.Layer.TheVariants.{Draft, Windows}
use Rattle.tape.specs.Commands.{partition_commands}
use Rattle.tape.specs.Decode.{before_frame, in_partition}
use Rattle.tape.specs.Loading.{Progress, newest, last_of, in_layer}
use Rattle.windows.proofs.Lists.{both_granted}
use Rattle.tape.specs.FirstFault.{Plays}
use Rattle.tape.proofs.SoFar.{with_newest}

pub plays_append : (cs ds : List Command) (l mid then : Progress) → Plays l cs mid → Plays mid ds then → Plays l (cs ++ ds) then
plays_append [] ds l mid then p q = subst (λ l. Plays l ds then) (sym p) q
plays_append (c ∷ cs) ds l mid then p q =
    (p.0, p.1, (p.2.0, p.2.1, plays_append cs ds p.2.0 mid then p.2.2 q))

-- what has been read, by its parts
abbrev pub reads : Module → ℕ → List ModelWindow → Turn → Progress
reads m f ws t = record { partitions = m; frame = f; windows = ws; turn = t }

pub granted_ok : {A : Type 0} (y : Layer) (a : Answer A) (v : A) (l : Progress) → a ≡ granted v → in_layer y a l ≡ Ok l
granted_ok y a v l e = ap (λ a. in_layer y a l) e

-- Tasks go to the newest partition.

newest_answer : (m : Module) (ds : List ModelTask) (k : ModelTask) → length ds < 16 → within_limits k ≡ true → task_answer (m ++ (ds ∷ [])) (newest (m ++ (ds ∷ []))) k ≡ granted (length ds)
newest_answer m ds k h w =
    let n : length m ≡ newest (m ++ (ds ∷ [])) = omega (arith, length-append m (ds ∷ [])) in
    let own : get_or (m ++ (ds ∷ [])) (newest (m ++ (ds ∷ []))) [] ≡ ds = get_or_at m ds [] [] (newest (m ++ (ds ∷ []))) n in
    cond-true (ltb (newest (m ++ (ds ∷ []))) (length (m ++ (ds ∷ [])))) _ _ (lt-ltb (newest (m ++ (ds ∷ []))) (length (m ++ (ds ∷ []))) (omega (arith, length-append m (ds ∷ []))))
    ∙ (ap (λ ks. task_answer_in ks k) own
    ∙ (cond-true (ltb (length ds) 16) _ _ (lt-ltb (length ds) 16 h) ∙ cond-true (within_limits k) _ _ w))

abbrev after_tasks : Turn → List ModelTask → Turn
after_tasks t [] = t
after_tasks t (k ∷ ks) = after_tasks AfterTask ks

module _ (f : ℕ) (ws : List ModelWindow) where
  tasks_play : (m : Module) (ds ks : List ModelTask) (t : Turn) → in_partition t ≡ true → length ds + length ks ≤ 16 → all_within ks ≡ true → Plays (reads (m ++ (ds ∷ [])) f ws t) (map Task ks) (reads (m ++ ((ds ++ ks) ∷ [])) f ws (after_tasks t ks))
  tasks_play m ds [] t i h a = ap (λ ks. reads (m ++ (ks ∷ [])) f ws t) (sym (append-nil ds))
  tasks_play m ds (k ∷ ks) t i h a =
      let both = and_parts (within_limits k) (all_within ks) a in
      let done = newest_answer m ds k (omega arith) both.0 in
      let rest = tasks_play m (ds ++ (k ∷ [])) ks AfterTask refl (omega (arith, length-append ds (k ∷ []))) both.1 in (
        i,
        refl,
        (
          reads (m ++ ((ds ++ (k ∷ [])) ∷ [])) f ws AfterTask,
          granted_ok Draft _ _ _ done ∙ ap (λ p. Ok (reads p f ws AfterTask)) (with_newest m ds k),
          subst (λ all. Plays (reads (m ++ ((ds ++ (k ∷ [])) ∷ [])) f ws AfterTask) (map Task ks) (reads (m ++ (all ∷ [])) f ws (after_tasks AfterTask ks))) (append_assoc ds (k ∷ []) ks) rest,
        ),
      )

  still_before : (t : Turn) (ks : List ModelTask) → before_frame t ≡ true → before_frame (after_tasks t ks) ≡ true
  still_before t [] b = b
  still_before t (k ∷ ks) b = still_before AfterTask ks refl

  new_partition : (m : Module) → length m < 8 → partition_answer m ≡ granted (length m)
  new_partition m h = cond-true (ltb (length m) 8) _ _ (lt-ltb (length m) 8 h)

  abbrev pub after_partitions : Turn → Module → Turn
  after_partitions t [] = t
  after_partitions t (ks ∷ m) = after_partitions (after_tasks AfterPartition ks) m

  pub still_before_all : (t : Turn) (m : Module) → before_frame t ≡ true → before_frame (after_partitions t m) ≡ true
  still_before_all t [] b = b
  still_before_all t (ks ∷ m) b = still_before_all (after_tasks AfterPartition ks) m (still_before AfterPartition ks refl)

  pub partitions_play : (had m : Module) (t : Turn) → before_frame t ≡ true → length had + length m ≤ 8 → partitions_within m ≡ true → Plays (reads had f ws t) (flat_map partition_commands m) (reads (had ++ m) f ws (after_partitions t m))
  partitions_play had [] t b h p = ap (λ m. reads m f ws t) (sym (append-nil had))
  partitions_play had (ks ∷ m) t b h p =
      let both = and_parts (partition_within ks) (partitions_within m) p in
      let own = and_parts (leb (length ks) 16) (all_within ks) both.0 in
      let tasks = tasks_play had [] ks AfterPartition refl (omega (arith, leb-true (length ks) 16 own.0)) own.1 in
      let rest = partitions_play (had ++ (ks ∷ [])) m (after_tasks AfterPartition ks) (still_before AfterPartition ks refl) (omega (arith, length-append had (ks ∷ []))) both.1 in
      let one : Plays (reads had f ws t) (partition_commands ks) (reads (had ++ (ks ∷ [])) f ws (after_tasks AfterPartition ks)) =
      (b, refl, (reads (with_partition had) f ws AfterPartition, granted_ok Draft _ _ _ (new_partition had (omega arith)), tasks))
      in
      plays_append (partition_commands ks) (flat_map partition_commands m) (reads had f ws t) _ _ one
      (subst (λ all. Plays (reads (had ++ (ks ∷ [])) f ws (after_tasks AfterPartition ks)) (flat_map partition_commands m) (reads all f ws (after_partitions (after_tasks AfterPartition ks) m))) (append_assoc had (ks ∷ []) m) rest)

-- Windows.

last_is : (ws : List ModelWindow) (w : ModelWindow) → last_of (ws ++ (w ∷ [])) ≡ Some w
last_is ws w =
    let n = length-append ws (w ∷ []) in
    let k : length ws ≡ length (ws ++ (w ∷ [])) - 1 = omega arith in
    slice_get-get_or (ws ++ (w ∷ [])) (length (ws ++ (w ∷ [])) - 1) w (omega arith) ∙ ap Some (get_or_at ws w [] w (length (ws ++ (w ∷ [])) - 1) k)

module _ (m : Module) (f : ℕ) where
  pub windows_play : (had ws : List ModelWindow) → length had + length ws ≤ 64 → windows_answer overlap f (length had) (last_of had) ws ≡ granted tt → Plays (reads m f had AfterFrame) (map Window ws) (reads m f (had ++ ws) AfterFrame)
  windows_play had [] h a = ap (λ ws. reads m f ws AfterFrame) (sym (append-nil had))
  windows_play had (w ∷ ws) h a =
      let both = both_granted (window_answer overlap f (length had) (last_of had) w) (windows_answer overlap f (length had + 1) (Some w) ws) tt a in
      let count : count_answer (length had + 1) ≡ granted tt = cond-true (leb (length had + 1) 64) _ _ (le-leb (length had + 1) 64 (omega arith)) in
      let n : length had + 1 ≡ length (had ++ (w ∷ [])) = sym (length-append had (w ∷ [])) in
      let here : windows_answer overlap f (length (had ++ (w ∷ []))) (last_of (had ++ (w ∷ []))) ws ≡ granted tt =
      ap (λ v. windows_answer overlap f (length (had ++ (w ∷ []))) v ws) (last_is had w) ∙ (ap (λ i. windows_answer overlap f i (Some w) ws) (sym n) ∙ both.1)
      in
      let rest = windows_play (had ++ (w ∷ [])) ws (omega arith) here in (
        refl,
        refl,
        (
          reads m f (had ++ (w ∷ [])) AfterFrame,
          granted_ok Windows _ _ _ (ap (λ a. and_then a (window_answer overlap f (length had) (last_of had) w)) count ∙ both.0.1),
          subst (λ all. Plays (reads m f (had ++ (w ∷ [])) AfterFrame) (map Window ws) (reads m f all AfterFrame)) (append_assoc had (w ∷ []) ws) rest,
        ),
      )
