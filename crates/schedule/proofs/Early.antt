-- The calls release each task as early as allowed: at each tick the next allowed release of a task is the first multiple
-- of its period from that tick on.
use Rattle.std.proofs.Common.{◌≡◌, ℕ, zero, suc, ◌+◌, ◌%◌, ◌<◌, ◌≤◌, Bool, true, false, cond, ◌&&◌, ◌||◌, eqb, ltb, leb, ◌⊎◌, List, [], ◌∷◌, ◌++◌, length, get_or, None, Ok, Err, Option, sym, refl, ap, ◌∙◌, inl, inr, arith}
use native.Mathlib.Nat.{zero-mod}
use Rattle.std.proofs.lemmas.List.{append_assoc, append-nil, get_or_at, length-append, length_push}
use Rattle.std.proofs.lemmas.Bool.{and_from, cases_Bool, cases_eq, cond-false, cond-true, eqb-false, eqb-true, le-leb, lt-leb, lt-ltb}
use Rattle.std.proofs.lemmas.Bool.Decides.{nat_tests}
use Rattle.model.specs.declared.call.Call.{Call}
use Rattle.model.specs.declared.call.Call.TheVariants.{Tick as tick, Of as call}
use Rattle.model.specs.declared.call.Request.TheVariants.{Release as release}
use Rattle.model.specs.declared.job.TaskState.{TaskState}
use Rattle.model.specs.declared.refusal.Refusal.TheVariants.{NoSuchTask, TooSoon}
use Rattle.model.specs.declared.reply.Reply.{Reply}
use Rattle.model.specs.declared.task.Task.{Task}
use Rattle.model.specs.FlightRecords.{accepted, flown}
use Rattle.model.specs.Machine.{Engine, MachineState, after, answered, closed, last_tick, late, new, put, ready, refusal, released, reply, ticked, told, unless, worked}
use Rattle.model.specs.Timetables.{bare_frame}
use Rattle.model.specs.Modules.{HasTask, Module, has_partition, module_within, task, task_in, task_of, tasks_of}
use Rattle.model.proofs.Limits.{Limits, has_part, limits}
use Rattle.model.proofs.OnePartition as one
use Rattle.model.proofs.OwnView.{view, view_other, view_release, with_tasks}
use Rattle.model.proofs.Turns.{put_other, put_same}
use Rattle.schedule.specs.Earliest.{AsEarlyAsAllowed, calls_at, earliest_calls, module_releases, partition_releases, release_at}
use Rattle.schedule.proofs.Goes.{Goes, at_split, then_goes}
use Rattle.schedule.proofs.Multiples.{FirstMultiple, multiple_ahead, multiple_here, multiple_on}

-- whether task i of partition p comes before task j of partition q
abbrev passed : ℕ → ℕ → ℕ → ℕ → Bool
passed q j p i = ltb p q || (eqb p q && ltb i j)

passed_here : (q j : ℕ) → passed q j q j ≡ false
passed_here q j = grind (arith, nat_tests)

passed_turn : (q j : ℕ) → passed q (j + 1) q j ≡ true
passed_turn q j = grind (arith, nat_tests)

passed_else : (q j p i : ℕ) → (p ≡ q → i ≡ j → ⊥) → passed q (j + 1) p i ≡ passed q j p i
passed_else q j p i other = grind (arith, nat_tests)

passed_all : (m : Module) (p i : ℕ) → HasTask m p i → passed (length m) 0 p i ≡ true
passed_all m p i k = let within : p < length m = has_part m p i k in grind (arith, nat_tests)

passed_none : (p i : ℕ) → passed 0 0 p i ≡ false
passed_none p i = grind (arith, nat_tests)

-- a partition whose tasks have all had their turn
passed_next : (m : Module) (q p i : ℕ) → HasTask m p i → passed q (length (tasks_of m q)) p i ≡ passed (q + 1) 0 p i
passed_next m q p i k = grind (arith, nat_tests)

-- a request for a release, by whether the task exists and whether it may be released
release_told : (x y : Bool) (a : Reply) → x ≡ true → told (unless x NoSuchTask (unless y TooSoon None)) a ≡ cond y (Ok a) (Err TooSoon)
unfolding told unless
release_told x true a h = rw h
release_told x false a h = rw h

cond_last : (b : Bool) (x y : TaskState) → x.last ≡ y.last → (cond b x y).last ≡ y.last
cond_last true x y e = e
cond_last false x y e = refl

-- the element after the front of a list
at_front : (ks front rest : List Task) (k : Task) (j : ℕ) → length front ≡ j → ks ≡ front ++ (k ∷ rest) → task_of ks j ≡ k
unfolding task_of
at_front ks front rest k j e split = ap (λ xs. get_or xs j (task 0 0 0)) split ∙ get_or_at front k rest (task 0 0 0) j e

past_front : {X : Type 0} (xs front rest : List X) (x : X) (j : ℕ) → length front ≡ j → xs ≡ front ++ (x ∷ rest) → j < length xs
past_front xs front rest x j e split = omega (arith, ap length split, length-append front (x ∷ rest))

module _ (g : Engine) (m : Module) where
  -- what holds of each call
  record Fine (st : MachineState) (c : Call) : Type 0 where
    kind : (c ≡ tick) ⊎ ((p : ℕ) × (i : ℕ) × HasTask m p i × (c ≡ call p (release i)))
    granted : accepted (reply g m st c) ≡ true
    none_left : c ≡ tick → (p i : ℕ) → HasTask m p i → reply g m st (call p (release i)) ≡ Err TooSoon

  -- by a task's last release, its next is allowed at the first multiple of its period from u on, or from the next tick on
  abbrev Due : ℕ → Bool → ℕ → ℕ → Option ℕ → Type 0
  Due u b p i o = FirstMultiple (task_in m p i).period (cond b (suc u) u) (ready (task_in m p i).period o)

  -- the tick is u, and the tasks before task j of partition q have had their turn
  record Stage (q j u : ℕ) (st : MachineState) : Type 0 where
    now_is : st.now ≡ u
    due : (p i : ℕ) → HasTask m p i → Due u (passed q j p i) p i ((st.partitions p).tasks i).last

  release_reply : (st : MachineState) (p i : ℕ) → HasTask m p i →
      reply g m st (call p (release i)) ≡ cond (leb (ready (task_in m p i).period ((st.partitions p).tasks i).last) st.now) (Ok (answered (tasks_of m p) st.now (st.partitions p) (release i))) (Err TooSoon)
  unfolding reply refusal
  release_reply st p i l = cond-true _ _ _ (lt-ltb p (length m) (has_part m p i l)) ∙ release_told _ _ _ (lt-ltb i (length (tasks_of m p)) l)

  module _ (ok : Limits m) (q j u : ℕ) (st : MachineState) (l : HasTask m q j) (h : Stage q j u st) where
    abbrev T : ℕ
    T = (task_in m q j).period

    abbrev after_it : MachineState
    after_it = after g m st (call q (release j))

    here : Due u false q j ((st.partitions q).tasks j).last
    here = rw (passed_here q j) at (h.due q j l)

    -- the task is not due at u
    kept : (u % T ≡ 0 → ⊥) → (p i : ℕ) → HasTask m p i → Due u (passed q (j + 1) p i) p i ((st.partitions p).tasks i).last
    kept z p i k = elim (cases_eq p q) [
      | inr d ↦ rw (passed_else q j p i (λ e f. d e)) (h.due p i k)
      | inl y ↦ elim (cases_eq i j) [
        | inr d ↦ rw (passed_else q j p i (λ e f. d f)) (h.due p i k)
        | inl w ↦ rw (y, w, passed_turn q j) (multiple_ahead T u _ here z)
      ]
    ]

    module _ (z : u % T ≡ 0) where
      may_now : leb (ready T ((st.partitions q).tasks j).last) st.now ≡ true
      may_now = le-leb _ _ (omega (arith, multiple_here T u _ here z, h.now_is))

      granted_now : accepted (reply g m st (call q (release j))) ≡ true
      unfolding accepted
      granted_now = ap accepted (release_reply st q j l ∙ cond-true _ _ _ may_now)

      has_q : has_partition m q ≡ true
      has_q = lt-ltb q (length m) (has_part m q j l)

      own_view : view q after_it ≡ with_tasks st.now (put (st.partitions q).tasks j (released st.now))
      own_view = view_release g m q st j has_q ∙ cond-true _ _ _ (and_from _ _ (lt-ltb j (length (tasks_of m q)) l) may_now)

      fresh : Due u true q j (released st.now).last
      unfolding released ready
      fresh = rw h.now_is (multiple_on T u (omega (arith, ok.costs q j l)) z)

      own_turn : (i : ℕ) → HasTask m q i → Due u (passed q (j + 1) q i) q i ((after_it.partitions q).tasks i).last
      own_turn i k = elim (cases_eq i j) [
        | inr d ↦ rw (passed_else q j q i (λ e f. d f), ap (λ (w : one.State). w.tasks i) own_view ∙ put_other (st.partitions q).tasks j _ i d) (h.due q i k)
        | inl y ↦ rw (y, passed_turn q j, ap (λ (w : one.State). w.tasks j) own_view ∙ put_same (st.partitions q).tasks j _) fresh
      ]

      turn : (p i : ℕ) → HasTask m p i → Due u (passed q (j + 1) p i) p i ((after_it.partitions p).tasks i).last
      turn p i k = elim (cases_eq p q) [
        | inr d ↦ rw (passed_else q j p i (λ e f. d e), ap (λ (w : one.State). w.tasks i) (view_other g m p st q (release j) has_q d)) (h.due p i k)
        | inl y ↦ rw y (own_turn i (rw y at k))
      ]

      released_goes : Goes g m Fine st (call q (release j) ∷ []) (Stage q (j + 1) u)
      unfolding flown
      released_goes = (
        (record { kind = inr (q, j, l, refl); granted = granted_now; none_left = λ e p i k. cc }, tt),
        record { now_is = ap (λ (w : one.State). w.now) own_view ∙ h.now_is; due = turn },
      )

    task_goes : Goes g m Fine st (release_at u q j (task_in m q j)) (Stage q (j + 1) u)
    unfolding flown
    task_goes = elim (cases_Bool (eqb (u % T) 0)) [
      | inl e ↦ rw e (released_goes (eqb-true _ _ e))
      | inr e ↦ rw e (tt, record { now_is = h.now_is; due = kept (eqb-false _ _ e) })
    ]

  module _ (ok : Limits m) (u : ℕ) where
    tasks_go : (q : ℕ) (ks front : List Task) (j : ℕ) → length front ≡ j → tasks_of m q ≡ front ++ ks → (st : MachineState) → Stage q j u st →
        Goes g m Fine st (partition_releases u q j ks) (Stage q (length (tasks_of m q)) u)
    unfolding flown
    tasks_go q [] front j e split st h = (tt, rw (ap length (split ∙ append-nil front) ∙ e) h)
    tasks_go q (k ∷ ks) front j e split st h =
        then_goes g m Fine (Stage q (j + 1) u) (Stage q (length (tasks_of m q)) u) st (release_at u q j k) (partition_releases u q (j + 1) ks)
        (rw (at_front (tasks_of m q) front ks k j e split) at (task_goes ok q j u st (past_front (tasks_of m q) front ks k j e split) h))
        (tasks_go q ks (front ++ (k ∷ [])) (j + 1) (length_push front k ∙ ap (λ n. n + 1) e) (split ∙ sym (append_assoc front (k ∷ []) ks)))

    next_partition : (q : ℕ) (st : MachineState) → Stage q (length (tasks_of m q)) u st → Stage (q + 1) 0 u st
    next_partition q st h = record { now_is = h.now_is; due = λ p i k. rw (passed_next m q p i k) at (h.due p i k) }

    partitions_go : (rest front : Module) (q : ℕ) → length front ≡ q → m ≡ front ++ rest → (st : MachineState) → Stage q 0 u st →
        Goes g m Fine st (module_releases u q rest) (Stage (length m) 0 u)
    unfolding flown
    partitions_go [] front q e split st h = (tt, rw (ap length (split ∙ append-nil front) ∙ e) h)
    partitions_go (ks ∷ rest) front q e split st h =
        let these = tasks_go q ks [] 0 refl (ap (λ (x : Module). tasks_of x q) split ∙ get_or_at front ks rest [] q e) st h in
        then_goes g m Fine (Stage (q + 1) 0 u) (Stage (length m) 0 u) st (partition_releases u q 0 ks) (module_releases u (q + 1) rest)
        (these.0, next_partition q _ these.1)
        (partitions_go rest (front ++ (ks ∷ [])) (q + 1) (length_push front ks ∙ ap (λ n. n + 1) e) (split ∙ sym (append_assoc front (ks ∷ []) rest)))

    module _ (st : MachineState) (l : st.now < last_tick) where
      tick_last : (p i : ℕ) → (((after g m st tick).partitions p).tasks i).last ≡ ((st.partitions p).tasks i).last
      unfolding after ticked worked closed
      tick_last p i =
          ap (λ (x : MachineState). ((x.partitions p).tasks i).last) (cond-true {A = MachineState} _ _ _ (lt-ltb _ _ l)) ∙
          cond_last (late g p (tasks_of m p) st.now (st.partitions p).tasks i) _ (worked g p (tasks_of m p) st.now (st.partitions p).tasks i) refl ∙ cond_last _ _ ((st.partitions p).tasks i) refl

      tick_now : (after g m st tick).now ≡ st.now + 1
      unfolding after
      tick_now = ap (λ (x : MachineState). x.now) (cond-true {A = MachineState} _ _ _ (lt-ltb _ _ l))

      tick_granted : accepted (reply g m st tick) ≡ true
      unfolding reply accepted
      tick_granted = ap accepted (cond-true _ _ _ (lt-ltb _ _ l))

    tick_goes : u < last_tick → (st : MachineState) → Stage (length m) 0 u st → Goes g m Fine st (tick ∷ []) (Stage 0 0 (suc u))
    unfolding flown
    tick_goes l st h =
        let in_time : st.now < last_tick = omega (arith, h.now_is) in
        let now_is : st.now ≡ u = h.now_is in
        let ahead : (p i : ℕ) → HasTask m p i → FirstMultiple (task_in m p i).period (suc u) (ready (task_in m p i).period ((st.partitions p).tasks i).last) =
        λ p i k. rw (passed_all m p i k) at (h.due p i k)
        in (
          (
            record {
              kind = inl refl;
              granted = tick_granted st in_time;
              none_left = λ e p i k. release_reply st p i k ∙ cond-false _ _ _ (lt-leb (ready (task_in m p i).period ((st.partitions p).tasks i).last) st.now (omega (arith, (ahead p i k).low)));
            },
            tt,
          ),
          record {
            now_is = omega (arith, tick_now st in_time);
            due = λ p i k. rw (passed_none p i, tick_last st in_time p i) (ahead p i k);
          },
        )

  all_go : Limits m → (f : ℕ) → f ≤ last_tick → Goes g m Fine (new 0) (earliest_calls m f) (Stage 0 0 f)
  unfolding flown ready
  all_go ok zero b = (
    tt,
    record {
      now_is = refl;
      due = λ p i k. rw (passed_none p i) (record { whole = zero-mod _; low = omega arith; high = omega (arith, ok.costs p i k) });
    },
  )
  all_go ok (suc u) b =
      then_goes g m Fine (Stage 0 0 u) (Stage 0 0 (suc u)) (new 0) (earliest_calls m u) (calls_at m u) (all_go ok u (omega arith))
      (λ st h. then_goes g m Fine (Stage (length m) 0 u) (Stage 0 0 (suc u)) st (module_releases u 0 m) (tick ∷ []) (partitions_go ok u m [] 0 refl refl st h) (tick_goes ok u (omega arith)))

-- some engine
abbrev idle_engine : Engine
idle_engine = record { timetable = bare_frame; rule = λ p a b. false; looks_for_late = false }

pub early : (m : Module) (f : ℕ) → module_within m ≡ true → f ≤ last_tick → AsEarlyAsAllowed m f (earliest_calls m f)
early m f ok b = record {
  tick_or_release = λ earlier later c split. (each idle_engine earlier later c split).kind;
  all_accepted = λ g earlier later c split. (each g earlier later c split).granted;
  none_left = λ g earlier later split. (each g earlier later tick split).none_left refl;
  all_ticks = λ g. (all_go g m (limits m ok) f b).1.now_is;
}
  where
    each : (g : Engine) (earlier later : List Call) (c : Call) → earliest_calls m f ≡ earlier ++ (c ∷ later) → Fine g m (flown g m (new 0) earlier) c
    each g earlier later c split = at_split g m (Fine g m) (new 0) (earliest_calls m f) earlier later c (all_go g m (limits m ok) f b).0 split
