-- Under any dispatch rule: a machine that is never late need not look for late jobs.
use Rattle.std.proofs.Common.{◌≡◌, ℕ, ◌+◌, ◌<◌, ◌≤◌, Bool, true, false, cond, ltb, List, [], ◌∷◌, ◌++◌, length, Some, None, Ok, Err, Option, Result, sym, refl, ap, ◌∙◌, subst, ap₂, inl, inr, arith}
use mathlib.Core.Path.{fun_ext}
use Rattle.std.proofs.lemmas.Bool.{and_parts, cases_Bool, cases_eq, cases_lt, cond-false, cond-true, le-ltb, leb-false, lt-ltb, ltb-true}
use Rattle.model.specs.declared.call.Call.{Call}
use Rattle.model.specs.declared.call.Request.{Request}
use Rattle.model.specs.declared.job.Job.{Job}
use Rattle.model.specs.declared.job.TaskState.{TaskState}
use Rattle.model.specs.declared.refusal.Refusal.{Refusal}
use Rattle.model.specs.declared.reply.Reply.{Reply}
use Rattle.model.specs.declared.task.Task.{Task}
use Rattle.model.specs.declared.call.Call.TheVariants.{Of as call, Tick as tick}
use Rattle.model.specs.declared.call.Request.TheVariants.{Clear as clear, End as end, Fault as fault, Release as release}
use Rattle.model.specs.declared.refusal.Refusal.TheVariants.{LastTick}
use Rattle.model.specs.declared.reply.Reply.TheVariants.{Turn as turn}
use Rattle.model.specs.FlightRecords.{ClosesLate, Entry, flight, flown}
use Rattle.model.specs.Machine.{DispatchRule, Engine, MachineState, PartitionState, after, chosen, closed, is_runner, last_tick, late, new, one_on, overdue, put, released, reply, runner, tick_reply, ticked, worked}
use Rattle.model.specs.Modules.{Module, has_partition, task_of, tasks_of}
use Rattle.model.specs.Promises.{NeverLate, executive, plain}
use Rattle.model.specs.Timetables.{Timetable, owner_at}
use Rattle.model.proofs.Limits.{Limits}
use Rattle.model.proofs.OwnView.{may_end, may_release, view, view_clear, view_end, view_fault, view_lacks, view_last, view_other, view_release, with_tasks}
use Rattle.model.proofs.Turns.{job_of, new_job, put_other, put_same}
use Rattle.model.proofs.OnePartition as one

-- the jobs of a partition with the tasks ts: none past its tasks, and none as old as its deadline
pub record Tidy (ts : List Task) (w : one.State) : Type 0 where
  pub shut : (i : ℕ) → length ts ≤ i → (w.tasks i).job ≡ None
  pub young : (i : ℕ) → i < length ts → (b : Job) → (w.tasks i).job ≡ Some b → w.now < b.released + (task_of ts i).deadline

module _ (ts : List Task) (w : one.State) (h : Tidy ts w) where
  put_tidy : (n : ℕ) (x : TaskState) (c : Bool) → (c ≡ true → (n < length ts) × ((b : Job) → x.job ≡ Some b → w.now < b.released + (task_of ts n).deadline)) →
      Tidy ts (cond c (with_tasks w.now (put w.tasks n x)) w)
  put_tidy n x true f = record {
    shut = λ i l. ap job_of (put_other w.tasks n x i (λ z. omega (arith, (f refl).0))) ∙ h.shut i l;
    young = λ i l b q. elim (cases_eq i n) [
      | inl z ↦ rw z ((f refl).1 b (ap job_of (sym (put_same w.tasks n x)) ∙ ap (λ k. (put w.tasks n x k).job) (sym z) ∙ q))
      | inr d ↦ h.young i l b (ap job_of (sym (put_other w.tasks n x i d)) ∙ q)
    ];
  }
  put_tidy n x false f = h

module _ (t : Timetable) (rule : DispatchRule) (m : Module) (ok : Limits m) where
  abbrev pub v : Engine
  v = plain t rule

  module _ (p : ℕ) (st : MachineState) (h : Tidy (tasks_of m p) (view p st)) where
    -- the task of a task with no job
    none_worked : (i : ℕ) → ((st.partitions p).tasks i).job ≡ None → (worked v p (tasks_of m p) st.now (st.partitions p).tasks i).job ≡ None
    unfolding worked one_on
    none_worked i e = elim (is_runner (runner v p (tasks_of m p) st.now (st.partitions p).tasks) i) as (λ c. (cond {A = TaskState} c (record { last = ((st.partitions p).tasks i).last; job = one_on (task_of (tasks_of m p) i).cost ((st.partitions p).tasks i).job }) ((st.partitions p).tasks i)).job ≡ None) [
      | true ↦ ap (one_on (task_of (tasks_of m p) i).cost) e
      | false ↦ e
    ]

    none_late : (i : ℕ) → ((st.partitions p).tasks i).job ≡ None → late v p (tasks_of m p) st.now (st.partitions p).tasks i ≡ false
    unfolding late overdue
    none_late i e = ap (overdue (task_of (tasks_of m p) i).deadline (st.now + 1)) (none_worked i e)

    shut_at : (i : ℕ) (c : Bool) (x : TaskState) → x.job ≡ None → (cond c (closed x) x).job ≡ None
    unfolding closed
    shut_at i true x e = refl
    shut_at i false x e = e

    young_at : (i : ℕ) (c : Bool) (x : TaskState) (b : Job) → overdue (task_of (tasks_of m p) i).deadline (st.now + 1) x.job ≡ c → (cond c (closed x) x).job ≡ Some b → st.now + 1 < b.released + (task_of (tasks_of m p) i).deadline
    unfolding closed overdue
    young_at i true x b e q = cc
    young_at i false x b e q = leb-false _ _ (ap (overdue (task_of (tasks_of m p) i).deadline (st.now + 1)) (sym q) ∙ e)

    tick_tidy : st.now < last_tick → Tidy (tasks_of m p) (view p (after v m st tick))
    unfolding after ticked late
    tick_tidy l = subst (Tidy (tasks_of m p)) (ap (view p) (sym (cond-true {A = MachineState} _ _ _ (lt-ltb st.now last_tick l)))) (record {
      shut = λ i k. shut_at i (late v p (tasks_of m p) st.now (st.partitions p).tasks i) (worked v p (tasks_of m p) st.now (st.partitions p).tasks i) (none_worked i (h.shut i k));
      young = λ i k b q. young_at i (late v p (tasks_of m p) st.now (st.partitions p).tasks i) (worked v p (tasks_of m p) st.now (st.partitions p).tasks i) b refl q;
    })

    same_tidy : (c : Call) → view p (after v m st c) ≡ view p st → Tidy (tasks_of m p) (view p (after v m st c))
    same_tidy c e = subst (Tidy (tasks_of m p)) (sym e) h

    own_tidy : (a : Request) → has_partition m p ≡ true → Tidy (tasks_of m p) (view p (after v m st (call p a)))
    unfolding closed
    own_tidy (release i) l = subst (Tidy (tasks_of m p)) (sym (view_release v m p st i l)) (put_tidy (tasks_of m p) (view p st) h i (released st.now) (may_release v m p st i) (λ e.
        let k : i < length (tasks_of m p) = ltb-true _ _ (and_parts _ _ e).0 in
        (k, λ b q. omega (arith, new_job st.now b q, ok.costs p i k))))
    own_tidy (end i) l = subst (Tidy (tasks_of m p)) (sym (view_end v m p st i l)) (put_tidy (tasks_of m p) (view p st) h i (closed ((st.partitions p).tasks i)) (may_end v m p st i) (λ e.
        (ltb-true _ _ (and_parts _ _ e).0, λ b q. cc)))
    own_tidy (fault k) l = same_tidy (call p (fault k)) (view_fault v m p st k l)
    own_tidy clear l = same_tidy (call p clear) (view_clear v m p st l)

    after_tidy : (c : Call) → Tidy (tasks_of m p) (view p (after v m st c))
    after_tidy tick = elim (cases_lt st.now last_tick) [
      | inl l ↦ tick_tidy l
      | inr l ↦ same_tidy tick (ap (view p) (view_last v m p st l))
    ]
    after_tidy (call q a) = elim (cases_Bool (has_partition m q)) [
      | inr l ↦ same_tidy (call q a) (ap (view p) (view_lacks v m p st q a l))
      | inl l ↦ elim (cases_eq q p) [
        | inl z ↦ subst (λ x. Tidy (tasks_of m p) (view p (after v m st (call x a)))) (sym z) (own_tidy a (ap (has_partition m) (sym z) ∙ l))
        | inr d ↦ same_tidy (call q a) (view_other v m p st q a l (λ z. d (sym z)))
      ]
    ]

  -- what holds of every state that a machine comes to that is never late
  pub record Quiet (st : MachineState) : Type 0 where
    pub quiet : (cs : List Call) → ClosesLate v m (flown v m st cs) → ⊥
    pub tidy : (p : ℕ) → Tidy (tasks_of m p) (view p st)

  pub quiet_new : NeverLate v m → (start : ℕ) → Quiet (new start)
  quiet_new never start = record {
    quiet = λ cs h. never start (flight v m (new start) (cs ++ (tick ∷ []))) (cs, [], refl, h);
    tidy = λ p. record { shut = λ i l. refl; young = λ i l b q. cc };
  }

  pub quiet_after : (st : MachineState) (c : Call) → Quiet st → Quiet (after v m st c)
  unfolding flown
  quiet_after st c h = record { quiet = λ cs. h.quiet (c ∷ cs); tidy = λ p. after_tidy p st (h.tidy p) c }

  module _ (st : MachineState) (h : Quiet st) where
    pub not_late : st.now < last_tick → (p i : ℕ) → late v p (tasks_of m p) st.now (st.partitions p).tasks i ≡ false
    unfolding flown
    not_late l p i = elim (cases_lt i (length (tasks_of m p))) [
      | inr k ↦ none_late p st (h.tidy p) i ((h.tidy p).shut i k)
      | inl k ↦ elim (cases_Bool (late v p (tasks_of m p) st.now (st.partitions p).tasks i)) [
        | inr e ↦ e
        | inl e ↦ absurd (h.quiet [] (p, i, k, l, e))
      ]
    ]

  abbrev u : Engine
  u = executive t rule

  same_reply : (st : MachineState) (c : Call) → reply u m st c ≡ reply v m st c
  unfolding reply tick_reply chosen
  same_reply st tick = go (owner_at t st.now)
    where
      go : (o : Option ℕ) → cond (ltb st.now last_tick) (Ok (turn (tick_reply u m st o))) (Err LastTick) ≡ cond (ltb st.now last_tick) (Ok (turn (tick_reply v m st o))) (Err LastTick)
      go None = refl
      go (Some p) = refl
  same_reply st (call p a) = refl

  looked : (st : MachineState) (p i : ℕ) → late u p (tasks_of m p) st.now (st.partitions p).tasks i ≡ false
  unfolding late
  looked st p i = refl

  same_work : (st : MachineState) (p i : ℕ) → worked u p (tasks_of m p) st.now (st.partitions p).tasks i ≡ worked v p (tasks_of m p) st.now (st.partitions p).tasks i
  unfolding worked runner chosen
  same_work st p i = refl

  same_ticked : (st : MachineState) → Quiet st → st.now < last_tick → (p : ℕ) → ticked u p (tasks_of m p) st.now (st.partitions p) ≡ ticked v p (tasks_of m p) st.now (st.partitions p)
  unfolding ticked
  same_ticked st h l p = ap {B = PartitionState} (λ (xs : ℕ → TaskState). record { tasks = xs; faults = (st.partitions p).faults; lost = (st.partitions p).lost }) (fun_ext one_task)
    where
      one_task : (i : ℕ) →
          cond (late u p (tasks_of m p) st.now (st.partitions p).tasks i) (closed (worked u p (tasks_of m p) st.now (st.partitions p).tasks i)) (worked u p (tasks_of m p) st.now (st.partitions p).tasks i) ≡
          cond (late v p (tasks_of m p) st.now (st.partitions p).tasks i) (closed (worked v p (tasks_of m p) st.now (st.partitions p).tasks i)) (worked v p (tasks_of m p) st.now (st.partitions p).tasks i)
      one_task i = cond-false _ _ _ (looked st p i) ∙ same_work st p i ∙ sym (cond-false _ _ _ (not_late st h l p i))

  same_after : (st : MachineState) (c : Call) → Quiet st → after u m st c ≡ after v m st c
  unfolding after
  same_after st tick h = elim (cases_lt st.now last_tick) [
    | inl l ↦ ap (λ (hs : ℕ → PartitionState). cond {A = MachineState} (ltb st.now last_tick) (record { now = st.now + 1; partitions = hs }) st) (fun_ext (same_ticked st h l))
    | inr l ↦ cond-false _ _ _ (le-ltb _ _ l) ∙ sym (cond-false _ _ _ (le-ltb _ _ l))
  ]
  same_after st (call p a) h = refl

  pub same_flown : (st : MachineState) (cs : List Call) → Quiet st → flown u m st cs ≡ flown v m st cs
  unfolding flown
  same_flown st [] h = refl
  same_flown st (c ∷ cs) h = ap (λ x. flown u m x cs) (same_after st c h) ∙ same_flown (after v m st c) cs (quiet_after st c h)

  pub same_flight : (st : MachineState) (cs : List Call) → Quiet st → flight u m st cs ≡ flight v m st cs
  unfolding flight
  same_flight st [] h = refl
  same_flight st (c ∷ cs) h =
      ap₂ (λ (a : Result Reply Refusal) (r : List Entry). record { call = c; answer = a } ∷ r) (same_reply st c)
      (ap (λ x. flight u m x cs) (same_after st c h) ∙ same_flight (after v m st c) cs (quiet_after st c h))
