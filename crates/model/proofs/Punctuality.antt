-- On a machine that is never late a job is ended or has run its cost by its deadline.
use Rattle.std.proofs.Common.{◌≡◌, ℕ, ◌+◌, ◌<◌, ◌≤◌, Bool, true, false, cond, eqb, leb, ◌⊎◌, List, [], ◌∷◌, ◌++◌, length, is_some, Some, None, Ok, Err, Option, Result, sym, refl, ap, ◌∙◌, subst, ap₂, subst₂, inl, inr, arith}
use Rattle.std.proofs.lemmas.List.{append_assoc}
use Rattle.std.proofs.lemmas.Bool.{and_from, and_left, and_parts, and_right, both_ways, cases_Bool, cases_eq, cases_lt, cond-false, cond-true, eq-eqb, eqb-true, lt-leb, lt-ltb, ltb-true, ne_eqb}
use Rattle.model.specs.declared.call.Call.{Call}
use Rattle.model.specs.declared.call.Request.{Request}
use Rattle.model.specs.declared.job.Job.{Job}
use Rattle.model.specs.declared.job.TaskState.{TaskState}
use Rattle.model.specs.declared.refusal.Refusal.{Refusal}
use Rattle.model.specs.declared.reply.Reply.{Reply}
use Rattle.model.specs.declared.task.Task.{Task}
use Rattle.model.specs.declared.call.Call.TheVariants.{Of as call, Tick as tick}
use Rattle.model.specs.declared.call.Request.TheVariants.{Clear as clear, End as end, Fault as fault, Release as release}
use Rattle.model.specs.declared.refusal.Refusal.TheVariants.{NoOpenJob, NoSuchPartition, NoSuchTask, TooSoon}
use Rattle.model.specs.declared.reply.Reply.TheVariants.{Turn as turn}
use Rattle.model.specs.FlightRecords.{Entry, FlightRecord, Served, accepted, asks_end, asks_release, calls_end, calls_release, ends, flight, how_many, is_tick, names_task, releases, runs, ticks, up_to}
use Rattle.model.specs.Machine.{DispatchRule, Engine, MachineState, after, by_order, chosen, answered, is_runner, last_tick, new, one_on, put, ready, refusal, released, reply, runner, tick_reply, ticked, told, turn_reply, unless, worked}
use Rattle.model.specs.Modules.{Module, has_partition, task_of, tasks_of}
use Rattle.model.specs.Promises.{AnyRule, Faithful, NeverLate, OnTime, Punctual, plain}
use Rattle.model.specs.Timetables.{Timetable, owned_by, owner_at}
use Rattle.model.proofs.ClearedNeverLate.{never}
use Rattle.model.proofs.Isolation.{clock}
use Rattle.model.proofs.Limits.{Limits, limits}
use Rattle.model.proofs.OwnView.{may_end, may_release, view, view_clear, view_end, view_fault, view_lacks, view_last, view_other, view_release}
use Rattle.model.proofs.Quiet.{Quiet, not_late, quiet_after, quiet_new, same_flight, same_flown}
use Rattle.model.proofs.Turns.{put_other, put_same}
use Rattle.model.proofs.OnePartition as one

-- a task whose open job was opened by its last release
abbrev holding : Job → TaskState
holding b = record { last = Some b.released; job = Some b }

-- one more tick
abbrev more : Job → Job
more b = record { released = b.released; ran = b.ran + 1 }

-- what one entry does to a job: it ends it, or runs its last tick, or leaves it open
data Next (p i c : ℕ) (b : Job) (e : Entry) (x : TaskState) : Type 0 where
  ended : ends p i e ≡ true → Next p i c b e x
  spent : runs p i e ≡ true → c ≤ b.ran + 1 → Next p i c b e x
  ran_on : runs p i e ≡ true → x ≡ holding (more b) → Next p i c b e x
  rested : x ≡ holding b → Next p i c b e x

-- a call that must pass two tests
told_both : (x y : Bool) (n k : Refusal) (a : Reply) → accepted (told (unless x n (unless y k None)) a) ≡ true → (x ≡ true) × (y ≡ true)
unfolding unless told accepted
told_both true true n k a h = (refl, refl)
told_both true false n k a h = (refl, h)
told_both false y n k a h = absurd (both_ways false refl h)

told_not : (x y : Bool) (n k : Refusal) (a : Reply) → y ≡ false → accepted (told (unless x n (unless y k None)) a) ≡ false
unfolding unless told accepted
told_not true true n k a h = absurd (both_ways true h refl)
told_not true false n k a h = refl
told_not false y n k a h = refl

told_yes : (x y : Bool) (n k : Refusal) (a : Reply) → x ≡ true → y ≡ true → told (unless x n (unless y k None)) a ≡ Ok a
unfolding unless told
told_yes true true n k a e f = refl
told_yes true false n k a e f = absurd (both_ways false refl f)
told_yes false y n k a e f = absurd (both_ways false refl e)

-- a put elsewhere
else_where : (w : one.State) (j : ℕ) (x : TaskState) (c : Bool) (i : ℕ) → (i ≡ j → ⊥) → (cond {A = one.State} c (record { now = w.now; tasks = put w.tasks j x }) w).tasks i ≡ w.tasks i
else_where w j x true i d = put_other w.tasks j x i d
else_where w j x false i d = refl

module _ (t : Timetable) (rule : DispatchRule) (m : Module) (p i : ℕ) (st : MachineState) where
  abbrev G : Engine
  G = plain t rule

  abbrev ts : List Task
  ts = tasks_of m p

  abbrev xs : ℕ → TaskState
  xs = (st.partitions p).tasks

  abbrev cost : ℕ
  cost = (task_of ts i).cost

  abbrev said : Option ℕ → Entry
  said o = record { call = tick; answer = Ok (turn (tick_reply G m st o)) }

  -- the task after the tick's work, by who owns the tick and whom p would choose
  abbrev work : Option ℕ → Option ℕ → TaskState
  work o k = cond (is_runner (cond (owned_by p o) k None) i) (record { last = (xs i).last; job = one_on cost (xs i).job }) (xs i)

  module _ (b : Job) (open_at : xs i ≡ holding b) where
    last_or_more : (e : Entry) → runs p i e ≡ true → Next p i cost b e (record { last = (xs i).last; job = one_on cost (xs i).job })
    unfolding one_on
    last_or_more e r = elim (cases_lt (b.ran + 1) cost) [
      | inl l ↦ ran_on r (ap (λ (x : TaskState). record { last = x.last; job = one_on cost x.job }) open_at ∙ ap (λ (o : Option Job). record { last = Some b.released; job = o }) (cond-false _ _ _ (lt-leb _ _ l)))
      | inr l ↦ spent r l
    ]

    own_tick : (k : Option ℕ) → chosen G p ts xs ≡ k → Next p i cost b (said (Some p)) (work (Some p) k)
    unfolding owned_by is_runner runs is_tick tick_reply turn_reply names_task
    own_tick None e = rested (cond_same (owned_by p (Some p)) ∙ open_at)
      where
        cond_same : (x : Bool) → cond (is_runner (cond x None None) i) (record { last = (xs i).last; job = one_on cost (xs i).job }) (xs i) ≡ xs i
        cond_same true = refl
        cond_same false = refl
    own_tick (Some k) e = elim (cases_eq i k) [
      | inl z ↦ subst (Next p i cost b (said (Some p))) (sym (cond-true _ _ _ (mine ∙ eq-eqb i k z))) (last_or_more (said (Some p)) (names z))
      | inr d ↦ rested (cond-false _ _ _ (mine ∙ ne_eqb i k d) ∙ open_at)
    ]
      where
        mine : is_runner (cond (owned_by p (Some p)) (Some k) None) i ≡ eqb i k
        mine = ap (λ x. is_runner (cond x (Some k) None) i) (eq-eqb p p refl)

        names : i ≡ k → names_task p i (Ok (turn (turn_reply p ts xs (chosen G p ts xs)))) ≡ true
        names z = ap (λ o. names_task p i (Ok (turn (turn_reply p ts xs o)))) e ∙ and_from _ _ (eq-eqb p p refl) (eq-eqb k i (sym z))

    by_owner : (o : Option ℕ) → Next p i cost b (said o) (work o (chosen G p ts xs))
    unfolding owned_by is_runner
    by_owner None = rested open_at
    by_owner (Some q) = elim (cases_eq q p) [
      | inl z ↦ subst (λ x. Next p i cost b (said (Some x)) (work (Some x) (chosen G p ts xs))) (sym z) (own_tick (chosen G p ts xs) refl)
      | inr d ↦ rested (ap (λ x. cond (is_runner (cond x (chosen G p ts xs) None) i) (record { last = (xs i).last; job = one_on cost (xs i).job }) (xs i)) (ne_eqb p q (λ z. d (sym z))) ∙ open_at)
    ]

    abbrev entry_of : Call → Entry
    entry_of c = record { call = c; answer = reply G m st c }

    abbrev task_after : Call → TaskState
    task_after c = ((after G m st c).partitions p).tasks i

    abbrev Step : Call → Type 0
    Step c = Next p i cost b (entry_of c) (task_after c)

    same_task : (c : Call) → view p (after G m st c) ≡ view p st → Step c
    same_task c e = rested (ap (λ (w : one.State). w.tasks i) e ∙ open_at)

    module _ (ok : Limits m) (quiet_now : Quiet t rule m ok st) (il : i < length ts) where
      task_ticked : st.now < last_tick → task_after tick ≡ work (owner_at t st.now) (chosen G p ts xs)
      unfolding after ticked worked runner
      task_ticked l = ap (λ (x : MachineState). (x.partitions p).tasks i) (cond-true {A = MachineState} _ _ _ (lt-ltb _ _ l)) ∙ cond-false _ _ _ (not_late t rule m ok st quiet_now l p i)

      tick_said : st.now < last_tick → reply G m st tick ≡ Ok (turn (tick_reply G m st (owner_at t st.now)))
      unfolding reply
      tick_said l = cond-true _ _ _ (lt-ltb _ _ l)

      tick_step : Step tick
      tick_step = elim (cases_lt st.now last_tick) [
        | inl l ↦ subst (λ x. Next p i cost b (entry_of tick) x) (sym (task_ticked l)) (subst (λ a. Next p i cost b (record { call = tick; answer = a }) (work (owner_at t st.now) (chosen G p ts xs))) (sym (tick_said l)) (by_owner (owner_at t st.now)))
        | inr l ↦ same_task tick (ap (view p) (view_last G m p st l))
      ]

      -- the task's next release is refused
      not_ready : leb (ready (task_of ts i).period (xs i).last) st.now ≡ false
      unfolding ready
      not_ready =
          lt-leb _ _ (rw open_at (omega (arith, (quiet_now.tidy p).young i il b (ap (λ (x : TaskState). x.job) open_at), ok.costs p i il)))

      release_step : (j : ℕ) → has_partition m p ≡ true → Step (call p (release j))
      release_step j l = elim (cases_eq i j) [
        | inl z ↦ subst (λ n. Step (call p (release n))) z (same_task (call p (release i)) (view_release G m p st i l ∙ cond-false _ _ _ (and_right _ _ not_ready)))
        | inr d ↦ rested (ap (λ (w : one.State). w.tasks i) (view_release G m p st j l) ∙ else_where (view p st) j _ (may_release G m p st j) i d ∙ open_at)
      ]

      ends_it : has_partition m p ≡ true → ends p i (entry_of (call p (end i))) ≡ true
      unfolding ends calls_end asks_end reply refusal accepted answered
      ends_it l =
          and_from _ _ (and_from _ _ (eq-eqb p p refl) (eq-eqb i i refl))
          (ap accepted (cond-true {A = Result Reply Refusal} (has_partition m p) _ (Err NoSuchPartition) l ∙ told_yes _ _ NoSuchTask NoOpenJob (answered ts st.now (st.partitions p) (end i)) (lt-ltb _ _ il) (ap (λ (x : TaskState). is_some x.job) open_at)))

      end_step : (j : ℕ) → has_partition m p ≡ true → Step (call p (end j))
      end_step j l = elim (cases_eq i j) [
        | inl z ↦ subst (λ n. Step (call p (end n))) z (ended (ends_it l))
        | inr d ↦ rested (ap (λ (w : one.State). w.tasks i) (view_end G m p st j l) ∙ else_where (view p st) j _ (may_end G m p st j) i d ∙ open_at)
      ]

      own_step : (a : Request) → has_partition m p ≡ true → Step (call p a)
      own_step (release j) l = release_step j l
      own_step (end j) l = end_step j l
      own_step (fault k) l = same_task (call p (fault k)) (view_fault G m p st k l)
      own_step clear l = same_task (call p clear) (view_clear G m p st l)

      next : (c : Call) → Step c
      next tick = tick_step
      next (call q a) = elim (cases_Bool (has_partition m q)) [
        | inr l ↦ same_task (call q a) (ap (view p) (view_lacks G m p st q a l))
        | inl l ↦ elim (cases_eq q p) [
          | inl z ↦ subst (λ x. Step (call x a)) (sym z) (own_step a (ap (has_partition m) (sym z) ∙ l))
          | inr d ↦ same_task (call q a) (view_other G m p st q a l (λ z. d (sym z)))
        ]
      ]

      refused_now : accepted (reply G m st (call p (release i))) ≡ false
      unfolding reply refusal accepted
      refused_now = elim (cases_Bool (has_partition m p)) [
        | inl l ↦ ap accepted (cond-true _ _ _ l) ∙ told_not _ _ NoSuchTask TooSoon _ not_ready
        | inr l ↦ ap accepted (cond-false _ _ _ l)
      ]

      no_release : (c : Call) → releases p i (entry_of c) ≡ false
      unfolding releases calls_release asks_release
      no_release tick = refl
      no_release (call q (release j)) = elim (cases_eq q p) [
        | inl z ↦ elim (cases_eq j i) [
          | inl y ↦ and_right _ _ (subst₂ (λ x n. accepted (reply G m st (call x (release n))) ≡ false) (sym z) (sym y) refused_now)
          | inr d ↦ and_left _ _ (and_right _ _ (ne_eqb j i d))
        ]
        | inr d ↦ and_left _ _ (and_left _ _ (ne_eqb q p d))
      ]
      no_release (call q (end j)) = and_left _ _ (and_right _ _ refl)
      no_release (call q (fault k)) = and_left _ _ (and_right _ _ refl)
      no_release (call q clear) = and_left _ _ (and_right _ _ refl)

-- the job is done within a part of a record, when it has run r ticks before
abbrev Done : ℕ → ℕ → ℕ → ℕ → List Entry → Type 0
Done p i c r l = (1 ≤ how_many (ends p i) l) ⊎ (c ≤ r + how_many (runs p i) l)

module _ (p i c : ℕ) (e : Entry) (l : List Entry) where
  done_later : (r : ℕ) → Done p i c r l → Done p i c r (e ∷ l)
  unfolding how_many
  done_later r (inl h) = inl (omega arith)
  done_later r (inr h) = inr (omega arith)

  done_ran : (r : ℕ) → runs p i e ≡ true → Done p i c (r + 1) l → Done p i c r (e ∷ l)
  unfolding how_many
  done_ran r y (inl h) = inl (omega arith)
  done_ran r y (inr h) = inr (omega (arith, cond-true {A = ℕ} _ 1 0 y))

  done_ended : (r : ℕ) → ends p i e ≡ true → Done p i c r (e ∷ l)
  unfolding how_many
  done_ended r y = inl (omega (arith, cond-true {A = ℕ} _ 1 0 y))

  done_spent : (r : ℕ) → runs p i e ≡ true → c ≤ r + 1 → Done p i c r (e ∷ l)
  unfolding how_many
  done_spent r y h = inr (omega (arith, cond-true {A = ℕ} _ 1 0 y))

module _ (t : Timetable) (rule : DispatchRule) (m : Module) (ok : Limits m) (p i : ℕ) (il : i < length (tasks_of m p)) where
  abbrev K : ℕ
  K = (task_of (tasks_of m p) i).cost

  serve : (cs : List Call) (st : MachineState) (b : Job) → Quiet t rule m ok st → (st.partitions p).tasks i ≡ holding b →
      b.released + (task_of (tasks_of m p) i).deadline ≤ st.now + how_many ticks (flight (plain t rule) m st cs) →
      Done p i K b.ran (up_to (releases p i) (flight (plain t rule) m st cs))
  unfolding flight how_many up_to
  serve [] st b quiet_now open_at l = absurd (omega (arith, (quiet_now.tidy p).young i il b (ap (λ (x : TaskState). x.job) open_at)))
  serve (c ∷ cs) st b quiet_now open_at l =
      subst (Done p i K b.ran) (sym (cond-false _ _ _ (no_release t rule m p i st b open_at ok quiet_now il c)))
      (go (next t rule m p i st b open_at ok quiet_now il c) (λ b'. serve cs (after (plain t rule) m st c) b' (quiet_after t rule m ok st c quiet_now)))
    where
      e : Entry
      e = record { call = c; answer = reply (plain t rule) m st c }

      later : List Entry
      later = up_to (releases p i) (flight (plain t rule) m (after (plain t rule) m st c) cs)

      go : Next p i K b (record { call = c; answer = reply (plain t rule) m st c }) (((after (plain t rule) m st c).partitions p).tasks i) →
          ((b' : Job) → ((after (plain t rule) m st c).partitions p).tasks i ≡ holding b' →
          b'.released + (task_of (tasks_of m p) i).deadline ≤ (after (plain t rule) m st c).now + how_many ticks (flight (plain t rule) m (after (plain t rule) m st c) cs) →
          Done p i K b'.ran (up_to (releases p i) (flight (plain t rule) m (after (plain t rule) m st c) cs))) →
          Done p i K b.ran (e ∷ later)
      go (ended h) ih = done_ended p i K e later b.ran h
      go (spent h k) ih = done_spent p i K e later b.ran h k
      go (ran_on h x) ih = done_ran p i K e later b.ran h (ih (more b) x (omega (arith, clock (plain t rule) m st c)))
      go (rested x) ih = done_later p i K e later b.ran (ih b x (omega (arith, clock (plain t rule) m st c)))

-- a place in a flight record
record At (t : Timetable) (rule : DispatchRule) (m : Module) (ok : Limits m) (e : Entry) (later : List Entry) : Type 0 where
  st : MachineState
  c : Call
  cs : List Call
  quiet_now : Quiet t rule m ok st
  e_is : e ≡ record { call = c; answer = reply (plain t rule) m st c }
  later_is : later ≡ flight (plain t rule) m (after (plain t rule) m st c) cs

none_in : (e : Entry) (r : List Entry) → ◌≡◌ {A = List Entry} (e ∷ r) [] → ⊥
none_in e r q = let z : ◌≡◌ {A = ℕ} 0 1 = cc in omega arith

head_is : (e f : Entry) (r s : List Entry) → ◌≡◌ {A = List Entry} (e ∷ r) (f ∷ s) → e ≡ f
head_is e f r s q = cc

tail_is : (e f : Entry) (r s : List Entry) → ◌≡◌ {A = List Entry} (e ∷ r) (f ∷ s) → r ≡ s
tail_is e f r s q = cc

module _ (m : Module) where
  -- the front of a record is a record
  flight_front : (g : Engine) (a b : List Entry) (st : MachineState) (cs : List Call) → a ++ b ≡ flight g m st cs → (ds : List Call) × (a ≡ flight g m st ds)
  unfolding flight
  flight_front g [] b st cs q = ([], refl)
  flight_front g (x ∷ a) b st [] q = absurd (none_in x _ q)
  flight_front g (x ∷ a) b st (c ∷ cs) q =
      let w = flight_front g a b (after g m st c) cs (tail_is _ _ _ _ q) in
      (c ∷ w.0, ap₂ (λ (y : Entry) (r : List Entry). y ∷ r) (head_is _ _ _ _ q) w.1)

module _ (t : Timetable) (rule : DispatchRule) (m : Module) (ok : Limits m) where
  place : (earlier : List Entry) (e : Entry) (later : List Entry) (st : MachineState) (cs : List Call) → Quiet t rule m ok st → earlier ++ (e ∷ later) ≡ flight (plain t rule) m st cs → At t rule m ok e later
  unfolding flight
  place [] e later st [] quiet_now q = absurd (none_in e later q)
  place [] e later st (c ∷ cs) quiet_now q = record { st = st; c = c; cs = cs; quiet_now = quiet_now; e_is = head_is _ _ _ _ q; later_is = tail_is _ _ _ _ q }
  place (x ∷ xs) e later st [] quiet_now q = absurd (none_in x _ q)
  place (x ∷ xs) e later st (c ∷ cs) quiet_now q = place xs e later (after (plain t rule) m st c) cs (quiet_after t rule m ok st c quiet_now) (tail_is _ _ _ _ q)

is_release : (p i : ℕ) (c : Call) → calls_release p i c ≡ true → c ≡ call p (release i)
unfolding calls_release asks_release
is_release p i tick h = absurd (both_ways false refl h)
is_release p i (call q (release j)) h = let v = and_parts _ _ h in ap₂ (λ x y. call x (release y)) (eqb-true _ _ v.0) (eqb-true _ _ v.1)
is_release p i (call q (end j)) h = absurd (both_ways false refl (and_parts _ _ h).1)
is_release p i (call q (fault j)) h = absurd (both_ways false refl (and_parts _ _ h).1)
is_release p i (call q clear) h = absurd (both_ways false refl (and_parts _ _ h).1)

module _ (t : Timetable) (rule : DispatchRule) (m : Module) (p i : ℕ) (st : MachineState) where
  -- what an accepted release leaves
  opened : accepted (reply (plain t rule) m st (call p (release i))) ≡ true →
      (i < length (tasks_of m p)) × (((after (plain t rule) m st (call p (release i))).partitions p).tasks i ≡ released st.now)
  unfolding reply refusal accepted
  opened h = elim (cases_Bool (has_partition m p)) [
    | inl l ↦
        let v = told_both _ _ NoSuchTask TooSoon _ (ap accepted (sym (cond-true _ _ (Err NoSuchPartition) l)) ∙ h) in
        (ltb-true _ _ v.0, ap (λ (w : one.State). w.tasks i) (view_release (plain t rule) m p st i l ∙ cond-true _ _ _ (and_from _ _ v.0 v.1)) ∙ put_same _ i _)
    | inr l ↦ absurd (both_ways _ (ap accepted (cond-false {A = Result Reply Refusal} _ _ (Err NoSuchPartition) l)) h)
  ]

module _ (t : Timetable) (rule : DispatchRule) (m : Module) (ok : Limits m) (still : NeverLate (plain t rule) m) where
  -- a record of an engine that does not look for late jobs is one of the plain machine
  as_plain : (start : ℕ) (r : List Entry) (looks_for_late : Bool) → FlightRecord (record { timetable = t; rule = rule; looks_for_late = looks_for_late }) m start r → FlightRecord (plain t rule) m start r
  as_plain start r true f = f
  as_plain start r false f = (f.0, f.1 ∙ same_flight t rule m ok (new start) f.0 (quiet_new t rule m ok still start))

  served : (start p i : ℕ) (earlier later : List Entry) (e : Entry) → releases p i e ≡ true →
      FlightRecord (plain t rule) m start (earlier ++ (e ∷ later)) →
      (task_of (tasks_of m p) i).deadline ≤ how_many ticks later → Served p i (task_of (tasks_of m p) i).cost later
  unfolding releases released ticks is_tick
  served start p i earlier later e rel f l =
      go (place t rule m ok earlier e later (new start) f.0 (quiet_new t rule m ok still start) f.1)
    where
      go : At t rule m ok e later → Served p i (task_of (tasks_of m p) i).cost later
      go w = rest
        where
          both : (calls_release p i e.call ≡ true) × (accepted e.answer ≡ true)
          both = and_parts _ _ rel

          c_is : w.c ≡ call p (release i)
          c_is = ap (λ (x : Entry). x.call) (sym w.e_is) ∙ is_release p i e.call both.0

          yes_now : accepted (reply (plain t rule) m w.st (call p (release i))) ≡ true
          yes_now = ap (λ x. accepted (reply (plain t rule) m w.st x)) (sym c_is) ∙ ap (λ (x : Entry). accepted x.answer) (sym w.e_is) ∙ both.1

          st' : MachineState
          st' = after (plain t rule) m w.st (call p (release i))

          later_now : later ≡ flight (plain t rule) m st' w.cs
          later_now = w.later_is ∙ ap (λ x. flight (plain t rule) m (after (plain t rule) m w.st x) w.cs) c_is

          rest : Served p i (task_of (tasks_of m p) i).cost later
          rest =
              let v = opened t rule m p i w.st yes_now in
              let b : Job = record { released = w.st.now; ran = 0 } in
              let k = clock (plain t rule) m w.st (call p (release i)) in
              let d : Done p i (task_of (tasks_of m p) i).cost 0 (up_to (releases p i) (flight (plain t rule) m st' w.cs)) =
              serve t rule m ok p i v.0 w.cs st' b (quiet_after t rule m ok w.st (call p (release i)) w.quiet_now) v.1 (omega (arith, k, l, ap (how_many ticks) later_now)) in
              elim d [
                | inl h ↦ inl (rw later_now h)
                | inr h ↦ inr (rw later_now (omega arith))
              ]

  on_time : (looks_for_late : Bool) → OnTime (record { timetable = t; rule = rule; looks_for_late = looks_for_late }) m
  on_time looks_for_late start p i earlier within later e fl rel l =
      let f : FlightRecord (plain t rule) m start (earlier ++ (e ∷ (within ++ later))) = as_plain start (earlier ++ (e ∷ (within ++ later))) looks_for_late fl in
      served start p i earlier within e rel (flight_front m (plain t rule) (earlier ++ (e ∷ within)) later (new start) f.0 (append_assoc earlier (e ∷ within) later ∙ f.1)) l

pub any_rule : AnyRule
any_rule t rule m within still =
    let ok : Limits m = limits m within in (
      on_time t rule m ok still true,
      on_time t rule m ok still false,
      (λ start cs.
          let q : Quiet t rule m ok (new start) = quiet_new t rule m ok still start in
          (same_flight t rule m ok (new start) cs q, same_flown t rule m ok (new start) cs q)),
    )

pub punctual : Punctual
punctual given running order m ok good =
    let w = any_rule running (by_order order) m ok.limits (never running order m ok good.in_time) in (w.0, w.1)

pub faithful : Faithful
faithful given running order m ok good = (any_rule running (by_order order) m ok.limits (never running order m ok good.in_time)).2
