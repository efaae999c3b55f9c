-- The commands that have been read of a tape: each command that is obeyed adds itself.
use Rattle.std.proofs.Common.{◌≡◌, ℕ, ◌+◌, ◌-◌, ◌<◌, ◌≤◌, true, false, leb, List, [], ◌∷◌, ◌++◌, map, length, set, Some, None, Ok, sym, refl, ap, ◌∙◌, subst, inl, inr, zero-add, arith}
use Rattle.std.proofs.lemmas.List.{append_assoc, append-nil, length-append, length-set, map_push, set_at, get_or_at}
use Rattle.std.proofs.lemmas.Bool.{cond-false, leb-true, cases_Bool, false≢true, true≢false}
use Rattle.std.proofs.lemmas.List.Concat.{flat_map-append}
use Rattle.std.specs.List.{flat_map, slice_get}
use Rattle.model.specs.declared.task.Task.{Task as ModelTask}
use Rattle.model.specs.declared.window.Window.{Window as ModelWindow}
use Rattle.model.specs.Answers.{Answer, granted, refused, and_then}
use Rattle.model.specs.Modules.{Module}
use Rattle.model.specs.WindowLists.{overlap, frame_answer, count_answer, window_answer, windows_answer}
use Rattle.draft.specs.Drafts.{with_partition, with_task}
use Rattle.tape.specs.declared.command.Command.{Command}
use Rattle.tape.specs.declared.command.Command.TheVariants.{Partition, Task, Frame, Window, End}
use Rattle.tape.specs.declared.command.Turn.{Turn}
use Rattle.tape.specs.declared.command.Turn.TheVariants.{Start, AfterPartition, AfterTask, AfterFrame}
use Rattle.tape.specs.declared.fault.Layer.{Layer}
use Rattle.tape.specs.Commands.{partition_commands}
use Rattle.tape.specs.Decode.{before_frame, in_partition, after_frame}
use Rattle.tape.specs.Loading.{Progress, newest, last_of, in_layer, obeyed, is_end}
use Rattle.windows.proofs.Lists.{both_granted, last_or, windows_one_more}
use Rattle.tape.specs.FirstFault.{follows}
use Rattle.tape.proofs.Lists.{split_last}

-- the frame and the windows, once the frame is given
abbrev pub framed : Turn → ℕ → List ModelWindow → List Command
framed Start f ws = []
framed AfterPartition f ws = []
framed AfterTask f ws = []
framed AfterFrame f ws = Frame f ∷ map Window ws

abbrev pub so_far : Progress → List Command
so_far l = flat_map partition_commands l.partitions ++ framed l.turn l.frame l.windows

-- a task follows a partition, and windows follow the frame
abbrev pub Orderly : Turn → Module → List ModelWindow → Type 0
Orderly Start m ws = ws ≡ []
Orderly AfterPartition m ws = (0 < length m) × (ws ≡ [])
Orderly AfterTask m ws = (0 < length m) × (ws ≡ [])
Orderly AfterFrame m ws = Unit {0}

-- once the frame is given, the window check accepts it with the windows so far
abbrev pub Accepted : Turn → ℕ → List ModelWindow → Type 0
Accepted Start f ws = Unit {0}
Accepted AfterPartition f ws = Unit {0}
Accepted AfterTask f ws = Unit {0}
Accepted AfterFrame f ws = (frame_answer f ≡ granted tt) × (windows_answer overlap f 0 None ws ≡ granted tt)

pub accepted_so_far : (t : Turn) (f : ℕ) (ws : List ModelWindow) → after_frame t ≡ true → Accepted t f ws → (frame_answer f ≡ granted tt) × (windows_answer overlap f 0 None ws ≡ granted tt)
accepted_so_far Start f ws a h = absurd (false≢true a)
accepted_so_far AfterPartition f ws a h = absurd (false≢true a)
accepted_so_far AfterTask f ws a h = absurd (false≢true a)
accepted_so_far AfterFrame f ws a h = h

last_from : (w : ModelWindow) (ws : List ModelWindow) → slice_get (w ∷ ws) (length ws) ≡ last_or (Some w) ws
last_from w [] = refl
last_from w (v ∷ ws) = last_from v ws

last_is_last : (ws : List ModelWindow) → last_of ws ≡ last_or None ws
last_is_last [] = refl
last_is_last (w ∷ ws) = let k : length (w ∷ ws) - 1 ≡ length ws = omega arith in ap (slice_get (w ∷ ws)) k ∙ last_from w ws

no_windows : (t : Turn) (m : Module) (f : ℕ) (ws : List ModelWindow) → before_frame t ≡ true → Orderly t m ws → (framed t f ws ≡ []) × (ws ≡ [])
no_windows Start m f ws b o = (refl, o)
no_windows AfterPartition m f ws b o = (refl, o.1)
no_windows AfterTask m f ws b o = (refl, o.1)
no_windows AfterFrame m f ws b o = absurd (false≢true b)

a_partition : (t : Turn) (m : Module) (ws : List ModelWindow) → in_partition t ≡ true → Orderly t m ws → (before_frame t ≡ true) × (0 < length m)
a_partition Start m ws i o = absurd (false≢true i)
a_partition AfterPartition m ws i o = (refl, o.0)
a_partition AfterTask m ws i o = (refl, o.0)
a_partition AfterFrame m ws i o = absurd (false≢true i)

pub the_frame : (t : Turn) (f : ℕ) (ws : List ModelWindow) → after_frame t ≡ true → framed t f ws ≡ Frame f ∷ map Window ws
the_frame Start f ws a = absurd (false≢true a)
the_frame AfterPartition f ws a = absurd (false≢true a)
the_frame AfterTask f ws a = absurd (false≢true a)
the_frame AfterFrame f ws a = refl

layer_ok : {A : Type 0} (y : Layer) (a : Answer A) (x then : Progress) → in_layer y a x ≡ Ok then → ((v : A) × (a ≡ granted v)) × (x ≡ then)
layer_ok y (granted v) x then e = ((v, refl), cc)
layer_ok y (refused n vs) x then e = absurd cc

-- a task goes to the newest partition
pub with_newest : (m : Module) (ks : List ModelTask) (k : ModelTask) → with_task (m ++ (ks ∷ [])) (newest (m ++ (ks ∷ []))) k ≡ m ++ ((ks ++ (k ∷ [])) ∷ [])
with_newest m ks k =
    let n : length m ≡ newest (m ++ (ks ∷ [])) = omega (arith, length-append m (ks ∷ [])) in
    ap (λ js. set (m ++ (ks ∷ [])) (newest (m ++ (ks ∷ []))) (js ++ (k ∷ []))) (get_or_at m ks [] [] (newest (m ++ (ks ∷ []))) n)
    ∙ set_at m ks [] (ks ++ (k ∷ [])) (newest (m ++ (ks ∷ []))) n

on_last : (m : Module) (ks : List ModelTask) (k : ModelTask) → flat_map partition_commands (m ++ ((ks ++ (k ∷ [])) ∷ [])) ≡ flat_map partition_commands (m ++ (ks ∷ [])) ++ (Task k ∷ [])
on_last m ks k = simp (flat_map-append, append-nil, map_push, append_assoc)

commands_newest : (m : Module) (k : ModelTask) → 0 < length m → flat_map partition_commands (with_task m (newest m) k) ≡ flat_map partition_commands m ++ (Task k ∷ [])
commands_newest [] k h = absurd (omega arith)
commands_newest (x ∷ xs) k h =
    let r = split_last x xs in
    let P : Module → Type 0 = λ m. flat_map partition_commands (with_task m (newest m) k) ≡ flat_map partition_commands m ++ (Task k ∷ []) in
    subst P (sym r.2) (ap (flat_map partition_commands) (with_newest r.0 r.1 k) ∙ on_last r.0 r.1 k)

-- What a command adds, by the parts of what is read.
module _ (m : Module) (f : ℕ) (ws : List ModelWindow) (t : Turn) (o : Orderly t m ws) where
  adds_partition : before_frame t ≡ true → flat_map partition_commands (with_partition m) ++ [] ≡ (flat_map partition_commands m ++ framed t f ws) ++ (Partition ∷ [])
  adds_partition b = rw (no_windows t m f ws b o).0 (simp (flat_map-append, append-nil))

  adds_task : (k : ModelTask) → in_partition t ≡ true → flat_map partition_commands (with_task m (newest m) k) ++ [] ≡ (flat_map partition_commands m ++ framed t f ws) ++ (Task k ∷ [])
  adds_task k i =
      let p = a_partition t m ws i o in
      rw (no_windows t m f ws p.0 o).0 (rw (commands_newest m k p.1) (simp append-nil))

  adds_frame : (g : ℕ) → before_frame t ≡ true → flat_map partition_commands m ++ (Frame g ∷ map Window ws) ≡ (flat_map partition_commands m ++ framed t f ws) ++ (Frame g ∷ [])
  adds_frame g b = rw ((no_windows t m f ws b o).0, (no_windows t m f ws b o).1) (simp append-nil)

  adds_window : (w : ModelWindow) → after_frame t ≡ true → flat_map partition_commands m ++ (Frame f ∷ map Window (ws ++ (w ∷ []))) ≡ (flat_map partition_commands m ++ framed t f ws) ++ (Window w ∷ [])
  adds_window w a = rw (the_frame t f ws a) (simp (map_push, append_assoc))

-- a list that takes one window more has at most 64
pub count_kept : {A : Type 0} (n : ℕ) (b : Answer A) (v : A) → and_then (count_answer n) b ≡ granted v → n ≤ 64
count_kept n b v e =
    elim (cases_Bool (leb n 64)) [
      | inl l ↦ leb-true n 64 l
      | inr l ↦
          let q : count_answer n ≡ refused 52 [] = cond-false _ _ _ l in
          let c : and_then (count_answer n) b ≡ refused 52 [] = ap (λ a. and_then a b) q in
          let z : ◌≡◌ {A = ℕ} 0 1 = cc in
          absurd (omega arith)
    ]

with_partition_some : (m : Module) → 0 < length (with_partition m)
with_partition_some m = omega (arith, length-append m ([] ∷ []))

with_task_some : (m : Module) (p : ℕ) (k : ModelTask) → 0 < length m → 0 < length (with_task m p k)
with_task_some m p k h = simp length-set h

-- what a command that is obeyed adds: itself
pub record Added (l : Progress) (c : Command) (then : Progress) : Type 0 where
  pub one_more : so_far then ≡ so_far l ++ (c ∷ [])
  pub orderly : Orderly then.turn then.partitions then.windows
  pub few : length then.windows ≤ 64
  pub accepted : Accepted then.turn then.frame then.windows

-- one window more that the window check accepts
window_accepted : (f : ℕ) (ws : List ModelWindow) (w : ModelWindow) (v : Unit {0}) → windows_answer overlap f 0 None ws ≡ granted tt → and_then (count_answer (length ws + 1)) (window_answer overlap f (length ws) (last_of ws) w) ≡ granted v → windows_answer overlap f 0 None (ws ++ (w ∷ [])) ≡ granted tt
window_accepted f ws w v a g =
    let one = (both_granted (count_answer (length ws + 1)) (window_answer overlap f (length ws) (last_of ws) w) v g).1 in
    windows_one_more overlap f 0 None ws w a (ap (λ k. window_answer overlap f k (last_or None ws) w) (zero-add (length ws)) ∙ (ap (λ u. window_answer overlap f (length ws) u w) (sym (last_is_last ws)) ∙ one))

module _ (l : Progress) (o : Orderly l.turn l.partitions l.windows) (few : length l.windows ≤ 64) (acc : Accepted l.turn l.frame l.windows) where
  pub obeyed_adds : (c : Command) (then : Progress) → follows l.turn c ≡ true → is_end c ≡ false → obeyed l c ≡ Ok then → Added l c then
  obeyed_adds Partition then b e r =
      let s = layer_ok _ _ _ then r in
      let no = no_windows l.turn l.partitions l.frame l.windows b o in
      subst (Added l Partition) s.1 (record {
        one_more = adds_partition l.partitions l.frame l.windows l.turn o b;
        orderly = (with_partition_some l.partitions, no.1);
        few = few;
        accepted = tt;
      })
  obeyed_adds (Task k) then i e r =
      let s = layer_ok _ _ _ then r in
      let p = a_partition l.turn l.partitions l.windows i o in
      let no = no_windows l.turn l.partitions l.frame l.windows p.0 o in
      subst (Added l (Task k)) s.1 (record {
        one_more = adds_task l.partitions l.frame l.windows l.turn o k i;
        orderly = (with_task_some l.partitions (newest l.partitions) k p.1, no.1);
        few = few;
        accepted = tt;
      })
  obeyed_adds (Frame f) then b e r =
      let s = layer_ok _ _ _ then r in
      subst (Added l (Frame f)) s.1 (record {
        one_more = adds_frame l.partitions l.frame l.windows l.turn o f b;
        orderly = tt;
        few = few;
        accepted = (s.0.1, ap (windows_answer overlap f 0 None) (no_windows l.turn l.partitions l.frame l.windows b o).1);
      })
  obeyed_adds (Window w) then a e r =
      let s = layer_ok _ _ _ then r in
      let was = accepted_so_far l.turn l.frame l.windows a acc in
      subst (Added l (Window w)) s.1 (record {
        one_more = adds_window l.partitions l.frame l.windows l.turn o w a;
        orderly = tt;
        few = simp length-append (count_kept (length l.windows + 1) _ s.0.0 s.0.1);
        accepted = (was.0, window_accepted l.frame l.windows w s.0.0 was.1 s.0.1);
      })
  obeyed_adds End then a e r = absurd (true≢false e)
