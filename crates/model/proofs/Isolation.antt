-- What a record says of partition p follows from p's own calls and the ticks alone.
use Rattle.std.proofs.Common.{◌≡◌, ℕ, ◌+◌, ◌%◌, ◌≤◌, Bool, true, false, cond, not, ◌&&◌, ltb, List, [], ◌∷◌, length, Some, None, Ok, Err, Option, Result, sym, refl, ap, ◌∙◌, subst, ap₂, inl, inr, mod-lt, arith}
use mathlib.Core.Path.{fun_ext}
use Rattle.std.proofs.lemmas.Bool.{both_ways, cases_eq, cases_lt, cond-false, cond-true, eq-eqb, eqb-true, le-ltb, lt-ltb, ne_eqb}
use Rattle.model.specs.declared.call.Call.{Call}
use Rattle.model.specs.declared.call.Request.{Request}
use Rattle.model.specs.declared.job.TaskState.{TaskState}
use Rattle.model.specs.declared.refusal.Refusal.{Refusal}
use Rattle.model.specs.declared.reply.Reply.{Reply}
use Rattle.model.specs.declared.task.Task.{Task}
use Rattle.model.specs.declared.call.Call.TheVariants.{Of as call, Tick as tick}
use Rattle.model.specs.declared.refusal.Refusal.TheVariants.{LastTick}
use Rattle.model.specs.declared.reply.Reply.TheVariants.{Turn as turn}
use Rattle.model.specs.FlightRecords.{Entry, accepted, calls_of, concerns, flight, is_tick, names_other, own_entries, struck, ticks}
use Rattle.model.specs.Machine.{Engine, MachineState, PartitionState, after, asked, chosen, closed, answered, is_runner, last_tick, late, new, one_on, overdue, put, refusal, reply, runner, since_of, tick_reply, ticked, told, turn_reply, worked}
use Rattle.model.specs.Modules.{Module, has_partition, task_of, tasks_of}
use Rattle.model.specs.Promises.{Alike, Isolated}
use Rattle.model.specs.Timetables.{owned_by, owner_at}
use Rattle.model.proofs.Firsts.{first_same}
use Rattle.model.proofs.Turns.{put_other, put_same}

-- the calls but for those that name partitions other than p
unfoldable pub kept : ℕ → List Call → List Call
kept p [] = []
kept p (c ∷ cs) = cond (names_other p c) (kept p cs) (c ∷ kept p cs)

module _ (g : Engine) (p : ℕ) (ts : List Task) where
  -- the tick as p sees it
  tick_now : ℕ → ℕ
  tick_now now = cond (ltb now last_tick) (now + 1) now

  tick_state : ℕ → PartitionState → PartitionState
  tick_state now h = cond (ltb now last_tick) (ticked g p ts now h) h

  tick_told : ℕ → PartitionState → Result Reply Refusal
  tick_told now h = cond (ltb now last_tick) (Ok (turn (turn_reply p ts h.tasks (chosen g p ts h.tasks)))) (Err LastTick)

  -- p's entries of a record, from p's own state and the calls that are kept
  pub solo : ℕ → PartitionState → List Call → List Entry
  solo now h [] = []
  solo now h (tick ∷ cs) =
      cond (owned_by p (owner_at g.timetable now)) (record { call = tick; answer = tick_told now h } ∷ solo (tick_now now) (tick_state now h) cs) (solo (tick_now now) (tick_state now h) cs)
  solo now h (call q a ∷ cs) =
      record { call = call q a; answer = told (refusal ts now h a) (answered ts now h a) } ∷ solo now (asked now h a (refusal ts now h a)) cs

owner_is : (p : ℕ) (o : Option ℕ) → owned_by p o ≡ true → o ≡ Some p
unfolding owned_by
owner_is p None h = absurd (both_ways false refl h)
owner_is p (Some q) h = ap Some (sym (eqb-true p q h))

module _ (g : Engine) (m : Module) where
  abbrev entry_of : MachineState → Call → Entry
  entry_of st c = record { call = c; answer = reply g m st c }

  -- the clock
  pub clock : (st : MachineState) (c : Call) → (after g m st c).now ≡ st.now + cond (ticks (entry_of st c)) 1 0
  unfolding ticks is_tick after reply accepted
  clock st tick = elim (cases_lt st.now last_tick) [
    | inl l ↦
        ap (λ (x : MachineState). x.now) (cond-true {A = MachineState} _ _ _ (lt-ltb _ _ l)) ∙
        ap {B = ℕ} (λ b. st.now + cond b 1 0) (sym (ap accepted (cond-true {A = Result Reply Refusal} _ _ _ (lt-ltb _ _ l))))
    | inr l ↦
        ap (λ (x : MachineState). x.now) (cond-false {A = MachineState} _ _ _ (le-ltb _ _ l)) ∙ plus ∙
        ap {B = ℕ} (λ b. st.now + cond b 1 0) (sym (ap accepted (cond-false {A = Result Reply Refusal} _ _ _ (le-ltb _ _ l))))
  ]
    where
      plus : st.now ≡ st.now + 0
      plus = omega arith
  clock st (call p a) = go (has_partition m p)
    where
      go : (b : Bool) → (cond {A = MachineState} b (record { now = st.now; partitions = put st.partitions p (asked st.now (st.partitions p) a (refusal (tasks_of m p) st.now (st.partitions p) a)) }) st).now ≡ st.now + 0
      go true = omega arith
      go false = omega arith

  module _ (p : ℕ) (pl : has_partition m p ≡ true) where
    -- p's part of a tick
    part_now : (st : MachineState) → (after g m st tick).now ≡ tick_now g p (tasks_of m p) st.now
    unfolding after tick_now
    part_now st = elim (ltb st.now last_tick) as (λ b. (cond {A = MachineState} b (record { now = st.now + 1; partitions = λ q. ticked g q (tasks_of m q) st.now (st.partitions q) }) st).now ≡ cond b (st.now + 1) st.now) [ true ↦ refl | false ↦ refl ]

    part_held : (st : MachineState) → (after g m st tick).partitions p ≡ tick_state g p (tasks_of m p) st.now (st.partitions p)
    unfolding after tick_state
    part_held st = elim (ltb st.now last_tick) as (λ b. (cond {A = MachineState} b (record { now = st.now + 1; partitions = λ q. ticked g q (tasks_of m q) st.now (st.partitions q) }) st).partitions p ≡ cond b (ticked g p (tasks_of m p) st.now (st.partitions p)) (st.partitions p)) [ true ↦ refl | false ↦ refl ]

    part_told : (st : MachineState) → owned_by p (owner_at g.timetable st.now) ≡ true → reply g m st tick ≡ tick_told g p (tasks_of m p) st.now (st.partitions p)
    unfolding reply tick_told tick_reply
    part_told st o = ap (λ x. cond (ltb st.now last_tick) (Ok (turn (tick_reply g m st x))) (Err LastTick)) (owner_is p _ o)

    -- a call that names p
    own_after : (st : MachineState) (a : Request) → (after g m st (call p a)).partitions p ≡ asked st.now (st.partitions p) a (refusal (tasks_of m p) st.now (st.partitions p) a)
    unfolding after
    own_after st a = ap (λ (x : MachineState). x.partitions p) (cond-true {A = MachineState} _ _ _ pl) ∙ put_same st.partitions p _

    own_told : (st : MachineState) (a : Request) → reply g m st (call p a) ≡ told (refusal (tasks_of m p) st.now (st.partitions p) a) (answered (tasks_of m p) st.now (st.partitions p) a)
    unfolding reply
    own_told st a = cond-true _ _ _ pl

    call_now : (st : MachineState) (q : ℕ) (a : Request) → (after g m st (call q a)).now ≡ st.now
    unfolding ticks is_tick
    call_now st q a = omega (arith, clock st (call q a))

    -- a call that names another
    other_after : (st : MachineState) (q : ℕ) (a : Request) → (p ≡ q → ⊥) → (after g m st (call q a)).partitions p ≡ st.partitions p
    unfolding after
    other_after st q a d = elim (has_partition m q) as (λ b. (cond {A = MachineState} b (record { now = st.now; partitions = put st.partitions q (asked st.now (st.partitions q) a (refusal (tasks_of m q) st.now (st.partitions q) a)) }) st).partitions p ≡ st.partitions p) [
      | true ↦ put_other st.partitions q _ p d
      | false ↦ refl
    ]

    abbrev Goal : MachineState → List Call → Type 0
    Goal st cs = own_entries g.timetable p st.now (flight g m st cs) ≡ solo g p (tasks_of m p) st.now (st.partitions p) (kept p cs)

    -- the entries that follow a call, by p's own state after it
    rest : (st : MachineState) (c : Call) (cs : List Call) (now : ℕ) (h : PartitionState) → (after g m st c).now ≡ now → (after g m st c).partitions p ≡ h → Goal (after g m st c) cs →
        own_entries g.timetable p (st.now + cond (ticks (entry_of st c)) 1 0) (flight g m (after g m st c) cs) ≡ solo g p (tasks_of m p) now h (kept p cs)
    rest st c cs now h e f ih =
        ap (λ x. own_entries g.timetable p x (flight g m (after g m st c) cs)) (sym (clock st c)) ∙ ih ∙ ap₂ (λ x y. solo g p (tasks_of m p) x y (kept p cs)) e f

    own_call : (st : MachineState) (a : Request) (cs : List Call) → Goal (after g m st (call p a)) cs → Goal st (call p a ∷ cs)
    unfolding own_entries flight solo kept concerns names_other
    own_call st a cs ih =
        cond-true _ _ _ (eq-eqb p p refl) ∙
        ap₂ (λ (x : Result Reply Refusal) (r : List Entry). record { call = call p a; answer = x } ∷ r) (own_told st a) (rest st (call p a) cs _ _ (call_now st p a) (own_after st a) ih) ∙
        sym (ap (solo g p (tasks_of m p) st.now (st.partitions p)) (cond-false _ _ _ (ap not (eq-eqb p p refl))))

    other_call : (st : MachineState) (q : ℕ) (a : Request) (cs : List Call) → (q ≡ p → ⊥) → Goal (after g m st (call q a)) cs → Goal st (call q a ∷ cs)
    unfolding own_entries flight kept concerns names_other
    other_call st q a cs d ih =
        cond-false _ _ _ (ne_eqb q p d) ∙ rest st (call q a) cs _ _ (call_now st q a) (other_after st q a (λ z. d (sym z))) ih ∙
        sym (ap (solo g p (tasks_of m p) st.now (st.partitions p)) (cond-true _ _ _ (ap not (ne_eqb q p d))))

    one_tick : (st : MachineState) (cs : List Call) → Goal (after g m st tick) cs → Goal st (tick ∷ cs)
    unfolding own_entries flight solo kept concerns names_other
    one_tick st cs ih = go (owned_by p (owner_at g.timetable st.now)) refl (rest st tick cs _ _ (part_now st) (part_held st) ih)
      where
        go : (b : Bool) → owned_by p (owner_at g.timetable st.now) ≡ b → {r s : List Entry} → r ≡ s →
            cond b (entry_of st tick ∷ r) r ≡ cond b (record { call = tick; answer = tick_told g p (tasks_of m p) st.now (st.partitions p) } ∷ s) s
        go true o e = ap₂ (λ (x : Result Reply Refusal) (y : List Entry). record { call = tick; answer = x } ∷ y) (part_told st o) e
        go false o e = e

    pub alone : (st : MachineState) (cs : List Call) → Goal st cs
    unfolding own_entries flight solo kept
    alone st [] = refl
    alone st (tick ∷ cs) = one_tick st cs (alone (after g m st tick) cs)
    alone st (call q a ∷ cs) = go (alone (after g m st (call q a)) cs)
      where
        go : Goal (after g m st (call q a)) cs → Goal st (call q a ∷ cs)
        go ih = elim (cases_eq q p) [
          | inl z ↦ subst (λ x. Goal (after g m st (call x a)) cs → Goal st (call x a ∷ cs)) (sym z) (own_call st a cs) ih
          | inr d ↦ other_call st q a cs d ih
        ]

  -- what a record keeps of its calls
  pub calls_kept : (p : ℕ) (st : MachineState) (cs : List Call) → calls_of (struck p (flight g m st cs)) ≡ kept p cs
  unfolding struck flight kept
  calls_kept p st [] = refl
  calls_kept p st (c ∷ cs) = go (names_other p c) (calls_kept p (after g m st c) cs)
    where
      go : (b : Bool) → calls_of (struck p (flight g m (after g m st c) cs)) ≡ kept p cs →
          calls_of (cond b (struck p (flight g m (after g m st c) cs)) (entry_of st c ∷ struck p (flight g m (after g m st c) cs))) ≡ cond b (kept p cs) (c ∷ kept p cs)
      go true ih = ih
      go false ih = ap (λ x. c ∷ x) ih

module _ (p : ℕ) (ts : List Task) (g h : Engine) (pos : 1 ≤ g.timetable.frame) (like : Alike p ts g h) where
  own_at : (now : ℕ) → owned_by p (owner_at g.timetable now) ≡ owned_by p (owner_at h.timetable now)
  unfolding owner_at
  own_at now = like.places (now % g.timetable.frame) (mod-lt now pos) ∙ ap (λ f. owned_by p (h.timetable.owner (now % f))) like.frame

  chosen_alike : (xs : ℕ → TaskState) → chosen g p ts xs ≡ chosen h p ts xs
  unfolding chosen
  chosen_alike xs = first_same _ _ _ (length ts) (λ j k a b. like.rule j k (since_of (xs j).job) (since_of (xs k).job) a b)

  runner_alike : (now : ℕ) (xs : ℕ → TaskState) → runner g p ts now xs ≡ runner h p ts now xs
  unfolding runner
  runner_alike now xs = ap₂ (λ b o. cond b o None) (own_at now) (chosen_alike xs)

  worked_alike : (now : ℕ) (xs : ℕ → TaskState) (i : ℕ) → worked g p ts now xs i ≡ worked h p ts now xs i
  unfolding worked
  worked_alike now xs i = ap (λ o. cond (is_runner o i) (record { last = (xs i).last; job = one_on (task_of ts i).cost (xs i).job }) (xs i)) (runner_alike now xs)

  late_alike : (now : ℕ) (xs : ℕ → TaskState) (i : ℕ) → late g p ts now xs i ≡ late h p ts now xs i
  unfolding late
  late_alike now xs i = ap₂ (λ (b : Bool) (x : TaskState). b && overdue (task_of ts i).deadline (now + 1) x.job) like.looks_for_late (worked_alike now xs i)

  ticked_alike : (now : ℕ) (x : PartitionState) → ticked g p ts now x ≡ ticked h p ts now x
  unfolding ticked
  ticked_alike now x =
      ap {B = PartitionState} (λ (xs : ℕ → TaskState). record { tasks = xs; faults = x.faults; lost = x.lost })
      (fun_ext (λ i. ap₂ (λ (b : Bool) (y : TaskState). cond b (closed y) y) (late_alike now x.tasks i) (worked_alike now x.tasks i)))

  told_alike : (now : ℕ) (x : PartitionState) → tick_told g p ts now x ≡ tick_told h p ts now x
  unfolding tick_told
  told_alike now x = ap (λ o. cond (ltb now last_tick) (Ok (turn (turn_reply p ts x.tasks o))) (Err LastTick)) (chosen_alike x.tasks)

  held_alike : (now : ℕ) (x : PartitionState) → tick_state g p ts now x ≡ tick_state h p ts now x
  unfolding tick_state
  held_alike now x = ap (λ y. cond (ltb now last_tick) y x) (ticked_alike now x)

  now_alike : (now : ℕ) → tick_now g p ts now ≡ tick_now h p ts now
  unfolding tick_now
  now_alike now = refl

  solo_alike : (now : ℕ) (x : PartitionState) (cs : List Call) → solo g p ts now x cs ≡ solo h p ts now x cs
  unfolding solo
  solo_alike now x [] = refl
  solo_alike now x (tick ∷ cs) =
      go (own_at now) (told_alike now x) (ap₂ (λ n y. solo g p ts n y cs) (now_alike now) (held_alike now x) ∙ solo_alike (tick_now h p ts now) (tick_state h p ts now x) cs)
    where
      go : {a b : Bool} {e f : Result Reply Refusal} {r s : List Entry} → a ≡ b → e ≡ f → r ≡ s → cond a (record { call = tick; answer = e } ∷ r) r ≡ cond b (record { call = tick; answer = f } ∷ s) s
      go o e r = λ k. cond (o k) (record { call = tick; answer = e k } ∷ r k) (r k)
  solo_alike now x (call q a ∷ cs) =
      ap (λ (r : List Entry). record { call = call q a; answer = told (refusal ts now x a) (answered ts now x a) } ∷ r) (solo_alike now (asked now x a (refusal ts now x a)) cs)

pub isolated : Isolated
isolated g h m n p law ml nl same like start r s fr fs eq =
    let k : kept p fr.0 ≡ kept p fs.0 =
    sym (calls_kept g m p (new start) fr.0) ∙ ap (λ x. calls_of (struck p x)) (sym fr.1) ∙ eq ∙ ap (λ x. calls_of (struck p x)) fs.1 ∙ calls_kept h n p (new start) fs.0
    in
    ap (own_entries g.timetable p (new start).now) fr.1 ∙ alone g m p (lt-ltb p (length m) ml) (new start) fr.0 ∙
    solo_alike p (tasks_of m p) g h law.frame_within.0 like (new start).now ((new start).partitions p) (kept p fr.0) ∙
    ap₂ (λ x y. solo h p x (new start).now ((new start).partitions p) y) same k ∙
    sym (alone h n p (lt-ltb p (length n) nl) (new start) fs.0) ∙ ap (own_entries h.timetable p (new start).now) (sym fs.1)
