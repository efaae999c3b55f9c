-- Partition p of the plain machine goes its own way.
use Rattle.std.proofs.Common.{◌≡◌, ℕ, ◌<◌, ◌≤◌, Bool, true, false, cond, ◌&&◌, ltb, leb, length, is_some, Some, None, Option, sym, refl, ap, ◌∙◌, inl, inr}
use Rattle.std.proofs.lemmas.Bool.{cases_Bool, cases_eq, cases_lt, cond-false, cond-true, le-ltb, lt-ltb}
use Rattle.model.specs.declared.call.Call.{Call}
use Rattle.model.specs.declared.call.Request.{Request}
use Rattle.model.specs.declared.job.TaskState.{TaskState}
use Rattle.model.specs.declared.refusal.Fault.{Fault}
use Rattle.model.specs.declared.refusal.Refusal.{Refusal}
use Rattle.model.specs.declared.call.Call.TheVariants.{Of as call, Tick as tick}
use Rattle.model.specs.declared.call.Request.TheVariants.{Clear as clear, End as end, Fault as fault, Release as release}
use Rattle.model.specs.declared.refusal.Refusal.TheVariants.{NoOpenJob, NoSuchTask, TooSoon}
use Rattle.model.specs.InTime.{Partition, partition, size}
use Rattle.model.specs.Machine.{Engine, MachineState, PartitionState, after, asked, by_order, chosen, closed, last_tick, late, noted, obeyed, put, ready, refusal, refused_of, released, runner, ticked, unless, worked}
use Rattle.model.specs.Modules.{Module, has_partition, task_of, tasks_of}
use Rattle.model.specs.Orders.{Order}
use Rattle.model.specs.Promises.{plain}
use Rattle.model.specs.Timetables.{Timetable}
use Rattle.model.proofs.OnePartition as one
use Rattle.model.proofs.Turns.{put_other, put_same}

-- what concerns partition p, but for its faults
abbrev pub view : ℕ → MachineState → one.State
view p st = record { now = st.now; tasks = (st.partitions p).tasks }

either_tasks : (b : Bool) (x y : PartitionState) (xs : ℕ → TaskState) → x.tasks ≡ xs → y.tasks ≡ xs → (cond b x y).tasks ≡ xs
either_tasks true x y xs e f = e
either_tasks false x y xs e f = f

-- a fault leaves the tasks alone
noted_tasks : (h : PartitionState) (f : Fault) → (noted h f).tasks ≡ h.tasks
unfolding noted
noted_tasks h f = either_tasks _ _ _ h.tasks refl refl

abbrev pub with_tasks : ℕ → (ℕ → TaskState) → one.State
with_tasks now xs = record { now = now; tasks = xs }

release_tasks : (now : ℕ) (h : PartitionState) (i : ℕ) (x y : Bool) →
    with_tasks now (asked now h (release i) (unless x NoSuchTask (unless y TooSoon None))).tasks ≡ cond (x && y) (with_tasks now (put h.tasks i (released now))) (with_tasks now h.tasks)
unfolding unless asked obeyed refused_of
release_tasks now h i true true = refl
release_tasks now h i true false = ap (with_tasks now) (noted_tasks h _)
release_tasks now h i false y = ap (with_tasks now) (noted_tasks h _)

end_tasks : (now : ℕ) (h : PartitionState) (i : ℕ) (x y : Bool) →
    with_tasks now (asked now h (end i) (unless x NoSuchTask (unless y NoOpenJob None))).tasks ≡ cond (x && y) (with_tasks now (put h.tasks i (closed (h.tasks i)))) (with_tasks now h.tasks)
unfolding unless asked obeyed refused_of
end_tasks now h i true true = refl
end_tasks now h i true false = ap (with_tasks now) (noted_tasks h _)
end_tasks now h i false y = ap (with_tasks now) (noted_tasks h _)

fault_tasks : (now : ℕ) (h : PartitionState) (k : ℕ) (r : Option Refusal) → (asked now h (fault k) r).tasks ≡ h.tasks
unfolding asked obeyed refused_of
fault_tasks now h k None = refl
fault_tasks now h k (Some n) = refl

clear_tasks : (now : ℕ) (h : PartitionState) (r : Option Refusal) → (asked now h clear r).tasks ≡ h.tasks
unfolding asked obeyed refused_of
clear_tasks now h None = refl
clear_tasks now h (Some n) = refl

-- What a call does, on any engine.
module _ (g : Engine) (m : Module) (p : ℕ) (st : MachineState) where
  pub view_last : last_tick ≤ st.now → after g m st tick ≡ st
  unfolding after
  view_last l = cond-false _ _ _ (le-ltb st.now last_tick l)

  pub view_lacks : (q : ℕ) (a : Request) → has_partition m q ≡ false → after g m st (call q a) ≡ st
  unfolding after
  view_lacks q a l = cond-false _ _ _ l

  pub view_call : (q : ℕ) (a : Request) → has_partition m q ≡ true →
      after g m st (call q a) ≡ record { now = st.now; partitions = put st.partitions q (asked st.now (st.partitions q) a (refusal (tasks_of m q) st.now (st.partitions q) a)) }
  unfolding after
  view_call q a l = cond-true _ _ _ l

  pub view_other : (q : ℕ) (a : Request) → has_partition m q ≡ true → (p ≡ q → ⊥) → view p (after g m st (call q a)) ≡ view p st
  view_other q a l d = ap (view p) (view_call q a l) ∙ ap (λ (h : PartitionState). with_tasks st.now h.tasks) (put_other st.partitions q _ p d)

  view_own : (a : Request) → has_partition m p ≡ true → view p (after g m st (call p a)) ≡ with_tasks st.now (asked st.now (st.partitions p) a (refusal (tasks_of m p) st.now (st.partitions p) a)).tasks
  view_own a l = ap (view p) (view_call p a l) ∙ ap (λ (h : PartitionState). with_tasks st.now h.tasks) (put_same st.partitions p _)

  -- whether the task may be released or ended
  abbrev pub may_release : ℕ → Bool
  may_release i = ltb i (length (tasks_of m p)) && leb (ready (task_of (tasks_of m p) i).period ((st.partitions p).tasks i).last) st.now

  abbrev pub may_end : ℕ → Bool
  may_end i = ltb i (length (tasks_of m p)) && is_some ((st.partitions p).tasks i).job

  pub view_release : (i : ℕ) → has_partition m p ≡ true → view p (after g m st (call p (release i))) ≡ cond (may_release i) (with_tasks st.now (put (st.partitions p).tasks i (released st.now))) (view p st)
  unfolding refusal
  view_release i l = view_own (release i) l ∙ release_tasks st.now (st.partitions p) i _ _

  pub view_end : (i : ℕ) → has_partition m p ≡ true → view p (after g m st (call p (end i))) ≡ cond (may_end i) (with_tasks st.now (put (st.partitions p).tasks i (closed ((st.partitions p).tasks i)))) (view p st)
  unfolding refusal
  view_end i l = view_own (end i) l ∙ end_tasks st.now (st.partitions p) i _ _

  pub view_fault : (k : ℕ) → has_partition m p ≡ true → view p (after g m st (call p (fault k))) ≡ view p st
  view_fault k l = view_own (fault k) l ∙ ap (with_tasks st.now) (fault_tasks st.now (st.partitions p) k _)

  pub view_clear : has_partition m p ≡ true → view p (after g m st (call p clear)) ≡ view p st
  view_clear l = view_own clear l ∙ ap (with_tasks st.now) (clear_tasks st.now (st.partitions p) _)

-- Under an order each partition is a machine by itself.
module _ (t : Timetable) (order : Order) (m : Module) where
  abbrev pub g : Engine
  g = plain t (by_order order)

  abbrev pub P : ℕ → Partition
  P p = partition t order m p

  module _ (p : ℕ) (st : MachineState) where
    pub late_is : (i : ℕ) → late g p (tasks_of m p) st.now (st.partitions p).tasks i ≡ one.late (P p) (view p st) i
    unfolding late worked runner chosen one.late one.after_work one.runner size
    late_is i = refl

    pub tick_is : st.now < last_tick → view p (after g m st tick) ≡ one.step (P p) (view p st) one.Event.tick
    unfolding after ticked late worked runner chosen one.step one.late one.after_work one.runner size
    tick_is l = ap (view p) (cond-true _ _ _ (lt-ltb st.now last_tick l))

    pub release_is : (i : ℕ) → has_partition m p ≡ true → view p (after g m st (call p (release i))) ≡ one.step (P p) (view p st) (one.Event.release i)
    unfolding one.step one.may_release size
    release_is i l = view_release g m p st i l

    pub end_is : (i : ℕ) → has_partition m p ≡ true → view p (after g m st (call p (end i))) ≡ one.step (P p) (view p st) (one.Event.end i)
    unfolding one.step one.may_end size
    end_is i l = view_end g m p st i l

  -- what a call does to partition p
  pub data Moves (p : ℕ) (st st' : MachineState) : Type 0 where
    stays : view p st' ≡ view p st → Moves p st st'
    goes : (e : one.Event) → view p st' ≡ one.step (P p) (view p st) e → Moves p st st'

  own_moves : (p : ℕ) (st : MachineState) (a : Request) → has_partition m p ≡ true → Moves p st (after g m st (call p a))
  own_moves p st (release i) l = goes (one.Event.release i) (release_is p st i l)
  own_moves p st (end i) l = goes (one.Event.end i) (end_is p st i l)
  own_moves p st (fault k) l = stays (view_fault g m p st k l)
  own_moves p st clear l = stays (view_clear g m p st l)

  pub moves : (p : ℕ) (st : MachineState) (c : Call) → Moves p st (after g m st c)
  moves p st tick = elim (cases_lt st.now last_tick) [
    | inl l ↦ goes one.Event.tick (tick_is p st l)
    | inr l ↦ stays (ap (view p) (view_last g m p st l))
  ]
  moves p st (call q a) = elim (cases_Bool (has_partition m q)) [
    | inr l ↦ stays (ap (view p) (view_lacks g m p st q a l))
    | inl l ↦ elim (cases_eq q p) [
      | inl z ↦ rw z (own_moves p st a (ap (has_partition m) (sym z) ∙ l))
      | inr d ↦ stays (view_other g m p st q a l (λ z. d (sym z)))
    ]
  ]
