-- The machine's state by the job tables of its partitions: what a request to one of them and a tick leave.
use Rattle.std.proofs.Common.{◌≡◌, ℕ, ◌+◌, ◌<◌, ◌≤◌, false, cond, List, [], map, length, get_or, set, Some, None, Ok, Err, Option, Result, sym, refl, ap, ◌∙◌, inl, inr, arith}
use mathlib.Core.Path.{fun_ext}
use Rattle.std.proofs.lemmas.List.{get_or-map, get_or_past, get_or-set_other, get_or-set_same, length-map, map-set, set-get_or}
use Rattle.std.proofs.lemmas.Bool.{cases_Bool, cases_eq, cond-false, cond-true, eq-eqb, le-ltb, lt-ltb, ne_eqb}
use Rattle.model.specs.declared.call.Call.TheVariants.{Of as call, Tick as tick}
use Rattle.model.specs.declared.call.Request.{Request}
use Rattle.model.specs.declared.refusal.Refusal.{Refusal}
use Rattle.model.specs.declared.refusal.Refusal.TheVariants.{LastTick, NoSuchPartition}
use Rattle.model.specs.declared.reply.Reply.{Reply}
use Rattle.model.specs.declared.reply.Reply.TheVariants.{Turn as turn}
use Rattle.model.specs.declared.reply.Turn.{Turn}
use Rattle.model.specs.declared.reply.Turn.TheVariants.{Idle, Spare}
use Rattle.model.specs.declared.task.Task.{Task}
use Rattle.model.specs.Machine.{DispatchRule, Engine, MachineState, PartitionState, after, answered, asked, chosen, is_runner, last_tick, late, one_on, put, refusal, reply, runner, ticked, tick_reply, told, turn_reply, untouched, worked}
use Rattle.model.specs.Modules.{Module, task_of, tasks_of}
use Rattle.model.specs.Promises.{executive}
use Rattle.model.specs.Ranges.{first_such}
use Rattle.model.specs.Timetables.{Timetable, owned_by, owner_at}
use Rattle.model.proofs.Turns.{put_same, put_other}
use Rattle.jobs.specs.declared.job_table.JobTable.{JobTable}
use Rattle.jobs.specs.Tables.{answer_to, state_after, state_of, tasks_in}
use Rattle.executive.specs.States.{partitions_of}

abbrev pub state : ℕ → List JobTable → MachineState
state now ts = record { now = now; partitions = partitions_of ts }

module _ (ts : List JobTable) (m : Module) (level : map tasks_in ts ≡ m) where
  pub as_many : length ts ≡ length m
  as_many = sym (length-map ts tasks_in) ∙ ap length level

  -- d is the table of partition p
  module _ (p : ℕ) (d : JobTable) (l : p < length ts) (here : d ≡ get_or ts p d) where
    pub state_at : partitions_of ts p ≡ state_of d
    state_at = get_or-map state_of ts p d untouched l ∙ ap state_of (sym here)

    pub tasks_at : tasks_of m p ≡ tasks_in d
    tasks_at = ap (λ n. get_or n p []) (sym level) ∙ get_or-map tasks_in ts p d [] l ∙ ap tasks_in (sym here)

    pub stored : (t : JobTable) → partitions_of (set ts p t) ≡ put (partitions_of ts) p (state_of t)
    unfolding put
    stored t = fun_ext (λ q. ap (λ xs. get_or xs q untouched) (map-set state_of ts p t) ∙ elim (cases_eq q p) [
      | inl e ↦ rw e (get_or-set_same (map state_of ts) p (state_of t) untouched (simp length-map l) ∙ sym (cond-true _ _ _ (eq-eqb p p refl)))
      | inr n ↦ get_or-set_other (map state_of ts) p q (state_of t) untouched n ∙ sym (cond-false _ _ _ (ne_eqb q p n))
    ])

    pub kept : (t : JobTable) → tasks_in t ≡ tasks_in d → map tasks_in (set ts p t) ≡ m
    kept t e =
        map-set tasks_in ts p t ∙ ap (set (map tasks_in ts) p) (e ∙ ap tasks_in here ∙ sym (get_or-map tasks_in ts p d [] l))
        ∙ set-get_or (map tasks_in ts) p [] ∙ level

    -- a request to partition p: its table answers, and keeps what is left
    module _ (g : Engine) (now : ℕ) (a : Request) where
      same_answer : answer_to d now a ≡ reply g m (state now ts) (call p a)
      unfolding reply
      same_answer =
          ap (λ ks. told (refusal ks now (state_of d) a) (answered ks now (state_of d) a)) (sym tasks_at)
          ∙ ap (λ h. told (refusal (tasks_of m p) now h a) (answered (tasks_of m p) now h a)) (sym state_at)
          ∙ sym (cond-true _ _ _ (lt-ltb p (length m) (omega (arith, as_many))))

      pub request_answer : (r : Result Reply Refusal) → r ≡ answer_to d now a → r ≡ reply g m (state now ts) (call p a)
      request_answer r e = e ∙ same_answer

      pub request_state : (t : JobTable) → state_of t ≡ state_after d now a → state now (set ts p t) ≡ after g m (state now ts) (call p a)
      unfolding after
      request_state t e =
          let asks : List Task → PartitionState → PartitionState = λ ks h. asked now h a (refusal ks now h a) in
          let left : state_of t ≡ asks (tasks_of m p) (partitions_of ts p) =
          e ∙ ap (λ ks. asks ks (state_of d)) (sym tasks_at) ∙ ap (asks (tasks_of m p)) (sym state_at) in
          ap (λ xs. record { now = now; partitions = xs }) (stored t ∙ ap (put (partitions_of ts) p) left)
          ∙ sym (cond-true _ _ _ (lt-ltb p (length m) (omega (arith, as_many))))

  -- a request to a partition that the module lacks
  module _ (g : Engine) (now p : ℕ) (a : Request) (l : length ts ≤ p) where
    pub lacks_answer : Err NoSuchPartition ≡ reply g m (state now ts) (call p a)
    unfolding reply
    lacks_answer = sym (cond-false _ _ _ (le-ltb p (length m) (omega (arith, as_many))))

    pub lacks_state : state now ts ≡ after g m (state now ts) (call p a)
    unfolding after
    lacks_state = sym (cond-false _ _ _ (le-ltb p (length m) (omega (arith, as_many))))

-- A tick of an engine that does not look for late jobs.
module _ (t : Timetable) (rule : DispatchRule) where
  abbrev g : Engine
  g = executive t rule

  rests : (p : ℕ) (ks : List Task) (now : ℕ) (h : PartitionState) → runner g p ks now h.tasks ≡ None → ticked g p ks now h ≡ h
  unfolding ticked late worked is_runner
  rests p ks now h e = ap (λ o. record { tasks = λ i. cond (is_runner o i) (record { last = (h.tasks i).last; job = one_on (task_of ks i).cost (h.tasks i).job }) (h.tasks i); faults = h.faults; lost = h.lost }) e

  -- a partition that does not own the tick is left as it was
  others_rest : (p : ℕ) (ks : List Task) (now : ℕ) (h : PartitionState) → owned_by p (owner_at t now) ≡ false → ticked g p ks now h ≡ h
  unfolding runner
  others_rest p ks now h e = rests p ks now h (cond-false _ _ _ e)

  -- so is one that has no tasks
  none_rest : (p now : ℕ) (h : PartitionState) → ticked g p [] now h ≡ h
  unfolding runner chosen first_such
  none_rest p now h = rests p [] now h (elim (cases_Bool (owned_by p (owner_at t now))) [ inl e ↦ cond-true _ _ _ e | inr e ↦ cond-false _ _ _ e ])

  module _ (ts : List JobTable) (m : Module) (level : map tasks_in ts ≡ m) (now : ℕ) (l : now < last_tick) where
    -- the partitions after the tick
    abbrev ticked_all : ℕ → PartitionState
    ticked_all p = ticked g p (tasks_of m p) now (partitions_of ts p)

    next_state : (xs : ℕ → PartitionState) → ((p : ℕ) → xs p ≡ ticked_all p) → ◌≡◌ {A = MachineState} (record { now = now + 1; partitions = xs }) (after g m (state now ts) tick)
    unfolding after
    next_state xs e = ap (λ ys. record { now = now + 1; partitions = ys }) (fun_ext e) ∙ sym (cond-true _ _ _ (lt-ltb now last_tick l))

    -- the answer by the owner
    by_owner : (o : Option ℕ) → owner_at t now ≡ o → Ok (turn (tick_reply g m (state now ts) o)) ≡ reply g m (state now ts) tick
    unfolding reply
    by_owner o e = ap (λ x. Ok (turn (tick_reply g m (state now ts) x))) (sym e) ∙ sym (cond-true _ _ _ (lt-ltb now last_tick l))

    module _ (own : owner_at t now ≡ None) where
      pub spare_answer : Ok (turn Spare) ≡ reply g m (state now ts) tick
      unfolding tick_reply
      spare_answer = by_owner None own

      pub spare_state : state (now + 1) ts ≡ after g m (state now ts) tick
      unfolding owned_by
      spare_state = next_state (partitions_of ts) (λ p. sym (others_rest p (tasks_of m p) now (partitions_of ts p) (ap (owned_by p) own)))

    module _ (p : ℕ) (own : owner_at t now ≡ Some p) where
      other_rests : (q : ℕ) → (q ≡ p → ⊥) → partitions_of ts q ≡ ticked_all q
      unfolding owned_by
      other_rests q n = sym (others_rest q (tasks_of m q) now (partitions_of ts q) (ap (owned_by q) own ∙ ne_eqb q p n))

      -- the module lacks the owner
      module _ (past : length ts ≤ p) where
        no_tasks : tasks_of m p ≡ []
        no_tasks = get_or_past m p [] (omega (arith, as_many ts m level))

        pub lacking_answer : Ok (turn (Idle p)) ≡ reply g m (state now ts) tick
        unfolding tick_reply turn_reply chosen first_such
        lacking_answer = ap (λ ks. Ok (turn (turn_reply p ks (partitions_of ts p).tasks (chosen g p ks (partitions_of ts p).tasks)))) (sym no_tasks) ∙ by_owner (Some p) own

        pub lacking_state : state (now + 1) ts ≡ after g m (state now ts) tick
        lacking_state = next_state (partitions_of ts) (λ q. elim (cases_eq q p) [
          | inl e ↦ rw e (sym (ap (λ ks. ticked g p ks now (partitions_of ts p)) no_tasks ∙ none_rest p now (partitions_of ts p)))
          | inr n ↦ other_rests q n
        ])

      -- the owner's table runs a job, or is idle
      module _ (d : JobTable) (k : p < length ts) (here : d ≡ get_or ts p d) where
        pub turn_answer : (r : Turn) → r ≡ turn_reply p (tasks_in d) (state_of d).tasks (chosen g p (tasks_in d) (state_of d).tasks) → Ok (turn r) ≡ reply g m (state now ts) tick
        unfolding tick_reply
        turn_answer r e =
            let took : List Task → PartitionState → Turn = λ ks h. turn_reply p ks h.tasks (chosen g p ks h.tasks) in
            ap (λ x. Ok (turn x)) (e ∙ ap (λ ks. took ks (state_of d)) (sym (tasks_at ts m level p d k here)) ∙ ap (took (tasks_of m p)) (sym (state_at ts m level p d k here))) ∙ by_owner (Some p) own

        pub turn_state : (x : JobTable) → state_of x ≡ ticked g p (tasks_in d) now (state_of d) → state (now + 1) (set ts p x) ≡ after g m (state now ts) tick
        turn_state x e =
            let own_state : state_of x ≡ ticked_all p =
            e ∙ ap (λ ks. ticked g p ks now (state_of d)) (sym (tasks_at ts m level p d k here)) ∙ ap (ticked g p (tasks_of m p) now) (sym (state_at ts m level p d k here)) in
            next_state (partitions_of (set ts p x)) (λ q. ap (λ xs. xs q) (stored ts m level p d k here x) ∙ elim (cases_eq q p) [
              | inl z ↦ rw z (put_same (partitions_of ts) p (state_of x) ∙ own_state)
              | inr n ↦ put_other (partitions_of ts) p (state_of x) q n ∙ other_rests q n
            ])

  -- at the last tick
  module _ (m : Module) (st : MachineState) (l : last_tick ≤ st.now) where
    pub last_answer : Err LastTick ≡ reply g m st tick
    unfolding reply
    last_answer = sym (cond-false _ _ _ (le-ltb st.now last_tick l))

    pub last_state : st ≡ after g m st tick
    unfolding after
    last_state = sym (cond-false _ _ _ (le-ltb st.now last_tick l))
