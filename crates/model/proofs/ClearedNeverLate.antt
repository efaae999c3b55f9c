-- On a cleared module no tick closes a job as late.
use Rattle.std.proofs.Common.{◌≡◌, ℕ, ◌<◌, ◌≤◌, min, Bool, true, false, cond, not, List, [], ◌∷◌, is_some, sym, refl, ap, ◌∙◌, subst, inl, inr, arith}
use native.Mathlib.Nat.{add-mod_right}
use Rattle.std.proofs.lemmas.Bool.{and_parts, both_ways, cases_Bool, cases_eq, cases_lt, ltb-true}
use Rattle.model.specs.declared.call.Call.{Call}
use Rattle.model.specs.declared.job.TaskState.{TaskState}
use Rattle.model.specs.declared.task.Task.{Task}
use Rattle.model.specs.FlightRecords.{flown}
use Rattle.model.specs.InTime.{D, Partition, Passes, partition, size}
use Rattle.model.specs.Machine.{MachineState, after, closed, last_tick, late, new, put}
use Rattle.model.specs.Modules.{HasTask, Module, tasks_of}
use Rattle.model.specs.Orders.{CanExist, Order, record_of}
use Rattle.model.specs.Promises.{NeverLate}
use Rattle.model.specs.SupplyFacts.{Repeats}
use Rattle.model.specs.Timetables.{Timetable, owned_by, owner_at}
use Rattle.model.specs.Verdicts.{AllInTime, Lawful}
use Rattle.model.proofs.InTimeNeeded.{late_open}
use Rattle.model.proofs.InTimeSuffices.{Inv, begins, not_late, step_keeps}
use Rattle.model.proofs.Limits.{has_part, limits}
use Rattle.model.proofs.OnePartition.{Proper}
use Rattle.model.proofs.OwnView.{Moves, P, g, late_is, moves, view}
use Rattle.model.proofs.OwnView.Moves.{goes, stays}
use Rattle.model.proofs.Supplies.{passes_everywhere}
use Rattle.model.proofs.Turns.{put_other, was_open}
use Rattle.model.proofs.OnePartition as one

-- a partition of a lawful module is proper
module _ (t : Timetable) (order : Order) (m : Module) (ok : Lawful t order m) where
  abbrev ks : ℕ → List Task
  ks p = tasks_of m p

  -- its records can exist
  exists : (p i : ℕ) → HasTask m p i → CanExist (record_of (ks p) i)
  unfolding record_of
  exists p i l = let b = limits m ok.limits in (omega (arith, b.sizes p), b.within p i l)

  one_first : (p i j : ℕ) → HasTask m p i → HasTask m p j → (i ≡ j → ⊥) → order p (record_of (ks p) i) (record_of (ks p) j) ≡ not (order p (record_of (ks p) j) (record_of (ks p) i))
  unfolding record_of
  one_first p i j k l d = ok.local_order.one_first p _ _ (omega (arith, (limits m ok.limits).few, has_part m p i k)) (exists p i k) (exists p j l) d

  pub proper : (p : ℕ) → Proper (partition t order m p)
  unfolding size
  proper p = record {
    costs = λ i l. let c = (limits m ok.limits).costs p i l in (c.0, c.1, c.2);
    irreflexive = λ i. ok.local_order.irreflexive p _;
    transitive = λ i j k. ok.local_order.transitive p _ _ _;
    total = λ i j k l. elim (cases_eq i j) [
      | inl z ↦ inl z
      | inr d ↦ elim (cases_Bool (order p (record_of (ks p) j) (record_of (ks p) i))) [
        | inl b ↦ inr (inr b)
        | inr b ↦ inr (inl (one_first p i j k l d ∙ ap not b))
      ]
    ];
  }

  pub repeats : (p : ℕ) → Repeats (partition t order m p) t.frame
  unfolding owner_at
  repeats p = (ok.timetable.frame_within.0, λ u. ap (λ x. owned_by p (t.owner x)) (add-mod_right u t.frame))

-- tasks that the partition lacks have no job
abbrev pub Shut : Partition → one.State → Type 0
Shut p w = (j : ℕ) → size p ≤ j → is_some (w.tasks j).job ≡ false

closes : (b : Bool) (x : TaskState) → is_some x.job ≡ false → is_some (cond b (closed x) x).job ≡ false
unfolding closed
closes true x h = refl
closes false x h = h

module _ (p : Partition) (w : one.State) (h : Shut p w) where
  work_shut : (j : ℕ) → size p ≤ j → is_some (one.after_work p w j).job ≡ false
  work_shut j l = elim (cases_Bool (is_some (one.after_work p w j).job)) [
    | inl e ↦ absurd (both_ways _ (h j l) (was_open p w j e))
    | inr e ↦ e
  ]

  put_shut : (n : ℕ) (x : TaskState) (b : Bool) → (b ≡ true → n < size p) → Shut p (cond b (record { now = w.now; tasks = put w.tasks n x }) w)
  put_shut n x true l j k = ap (λ (y : TaskState). is_some y.job) (put_other w.tasks n x j (λ z. let q : n < size p = l refl in omega arith)) ∙ h j k
  put_shut n x false l j k = h j k

  step_shut : (e : one.Event) → Shut p (one.step p w e)
  unfolding one.step one.may_release one.may_end
  step_shut one.Event.tick = λ j l. closes _ _ (work_shut j l)
  step_shut (one.Event.release n) = put_shut n _ (one.may_release p w n) (λ e. ltb-true _ _ (and_parts _ _ e).0)
  step_shut (one.Event.end n) = put_shut n _ (one.may_end p w n) (λ e. ltb-true _ _ (and_parts _ _ e).0)

  pub shut_not_late : (j : ℕ) → size p ≤ j → one.late p w j ≡ false
  shut_not_late j l = elim (cases_Bool (one.late p w j)) [
    | inl e ↦ absurd (both_ways _ (work_shut j l) (late_open p w j e))
    | inr e ↦ e
  ]

module _ (t : Timetable) (order : Order) (m : Module) (ok : Lawful t order m) where
  -- what holds of each partition in every state that the machine comes to
  pub record Sound (st : MachineState) : Type 0 where
    pub kept : (p i : ℕ) → i < size (P t order m p) → Inv (P t order m p) i st.now (st.partitions p).tasks
    pub shut : (p : ℕ) → Shut (P t order m p) (view p st)

  pub sound_new : (start : ℕ) → Sound (new start)
  sound_new start = record {
    kept = λ p i l. begins (P t order m p) (proper t order m ok p) i l (min start last_tick);
    shut = λ p j l. refl;
  }

  inv_moves : (p i : ℕ) (l : i < size (P t order m p)) (st st' : MachineState) → Inv (P t order m p) i st.now (st.partitions p).tasks → Moves t order m p st st' → Inv (P t order m p) i st'.now (st'.partitions p).tasks
  inv_moves p i l st st' h (stays e) = subst (λ (w : one.State). Inv (P t order m p) i w.now w.tasks) (sym e) h
  inv_moves p i l st st' h (goes c e) = subst (λ (w : one.State). Inv (P t order m p) i w.now w.tasks) (sym e) (step_keeps (P t order m p) (proper t order m ok p) i l (view p st) c h)

  shut_moves : (p : ℕ) (st st' : MachineState) → Shut (P t order m p) (view p st) → Moves t order m p st st' → Shut (P t order m p) (view p st')
  shut_moves p st st' h (stays e) = subst (Shut (P t order m p)) (sym e) h
  shut_moves p st st' h (goes c e) = subst (Shut (P t order m p)) (sym e) (step_shut (P t order m p) (view p st) h c)

  pub sound_after : (st : MachineState) (c : Call) → Sound st → Sound (after (g t order m) m st c)
  sound_after st c h = record {
    kept = λ p i l. inv_moves p i l st (after (g t order m) m st c) (h.kept p i l) (moves t order m p st c);
    shut = λ p. shut_moves p st (after (g t order m) m st c) (h.shut p) (moves t order m p st c);
  }

  pub sound_flown : (st : MachineState) (cs : List Call) → Sound st → Sound (flown (g t order m) m st cs)
  unfolding flown
  sound_flown st [] h = h
  sound_flown st (c ∷ cs) h = sound_flown (after (g t order m) m st c) cs (sound_after st c h)

  module _ (clear : AllInTime t order m) where
    passes : (p i : ℕ) → i < size (P t order m p) → (s : ℕ) → Passes (P t order m p) i s
    unfolding size
    passes p i l = passes_everywhere (P t order m p) t.frame i (D (P t order m p) i) (repeats t order m ok p) (clear p i l)

    pub never_late : (st : MachineState) → Sound st → (p i : ℕ) → late (g t order m) p (tasks_of m p) st.now (st.partitions p).tasks i ≡ false
    never_late st h p i = late_is t order m p st i ∙ elim (cases_lt i (size (P t order m p))) [
      | inl l ↦ not_late (P t order m p) (proper t order m ok p) i l (passes p i l) (view p st) (h.kept p i l)
      | inr l ↦ shut_not_late (P t order m p) (view p st) (h.shut p) i l
    ]

pub never : (t : Timetable) (order : Order) (m : Module) → Lawful t order m → AllInTime t order m → NeverLate (g t order m) m
never t order m ok clear start r v =
    let cs = v.0 in
    let h = v.3 in
    both_ways _ (never_late t order m ok clear (flown (g t order m) m (new start) cs) (sound_flown t order m ok (new start) cs (sound_new t order m ok start)) h.0 h.1) h.4
