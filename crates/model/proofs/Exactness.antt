-- A module that is not cleared has a flight record with a late job.
use Rattle.std.proofs.Common.{◌≡◌, ℕ, ◌+◌, ◌<◌, ◌≤◌, Bool, true, false, cond, ◌⊎◌, List, [], ◌∷◌, ◌++◌, length, refl, ap, ◌∙◌, inl, inr, arith}
use Rattle.std.proofs.lemmas.Bool.{both_ways, cases_Bool, lt-ltb}
use Rattle.model.specs.declared.call.Call.{Call}
use Rattle.model.specs.declared.call.Call.TheVariants.{Of as call, Tick as tick}
use Rattle.model.specs.declared.call.Request.TheVariants.{End as end, Release as release}
use Rattle.model.specs.FlightRecords.{Entry, LateRecord, flight, flown}
use Rattle.model.specs.InTime.{D, InTime, Partition, Passes, passes, size}
use Rattle.model.specs.Machine.{MachineState, after, closed, last_tick, new, put, released}
use Rattle.model.specs.Modules.{Module, has_partition}
use Rattle.model.specs.Orders.{Order}
use Rattle.model.specs.Promises.{Exact}
use Rattle.model.specs.Timetables.{Timetable}
use Rattle.model.specs.Verdicts.{AllInTime, Lawful}
use Rattle.model.proofs.ClearedNeverLate.{never, proper}
use Rattle.model.proofs.Decisions.{decides_passes}
use Rattle.model.proofs.InTimeNeeded.{needed}
use Rattle.model.proofs.Limits.{has_part, limits}
use Rattle.model.proofs.OwnView.{P, end_is, g, late_is, release_is, tick_is, view}
use Rattle.model.proofs.Ranges.{find_below}
use Rattle.model.proofs.OnePartition as one

-- the calls that do what an event of partition p does
lift : ℕ → one.Event → Call
lift p one.Event.tick = tick
lift p (one.Event.release i) = call p (release i)
lift p (one.Event.end i) = call p (end i)

lifts : ℕ → List one.Event → List Call
lifts p [] = []
lifts p (e ∷ es) = lift p e ∷ lifts p es

-- the clock never goes back
step_later : (p : Partition) (w : one.State) (e : one.Event) → w.now ≤ (one.step p w e).now
unfolding one.step
step_later p w one.Event.tick = omega arith
step_later p w (one.Event.release i) = go (one.may_release p w i)
  where
    go : (b : Bool) → w.now ≤ (cond {A = one.State} b (record { now = w.now; tasks = put w.tasks i (released w.now) }) w).now
    go true = omega arith
    go false = omega arith
step_later p w (one.Event.end i) = go (one.may_end p w i)
  where
    go : (b : Bool) → w.now ≤ (cond {A = one.State} b (record { now = w.now; tasks = put w.tasks i (closed (w.tasks i)) }) w).now
    go true = omega arith
    go false = omega arith

run_later : (p : Partition) (w : one.State) (es : List one.Event) → w.now ≤ (one.run p w es).now
unfolding one.run
run_later p w [] = omega arith
run_later p w (e ∷ es) = omega (arith, step_later p w e, run_later p (one.step p w e) es)

module _ (t : Timetable) (order : Order) (m : Module) (p : ℕ) (pl : has_partition m p ≡ true) where
  view_lift : (st : MachineState) (e : one.Event) → (one.step (P t order m p) (view p st) e).now ≤ last_tick →
      view p (after (g t order m) m st (lift p e)) ≡ one.step (P t order m p) (view p st) e
  unfolding lift one.step
  view_lift st one.Event.tick l = tick_is t order m p st (omega arith)
  view_lift st (one.Event.release i) l = release_is t order m p st i pl
  view_lift st (one.Event.end i) l = end_is t order m p st i pl

  view_lifts : (st : MachineState) (w : one.State) (es : List one.Event) → view p st ≡ w → (one.run (P t order m p) w es).now ≤ last_tick →
      view p (flown (g t order m) m st (lifts p es)) ≡ one.run (P t order m p) w es
  unfolding lifts flown one.run
  view_lifts st w [] e l = e
  view_lifts st w (x ∷ es) e l = view_lifts (after (g t order m) m st (lift p x)) (one.step (P t order m p) w x) es (view_lift st x bound ∙ ap (λ y. one.step (P t order m p) y x) e) l
    where
      bound : (one.step (P t order m p) (view p st) x).now ≤ last_tick
      bound = rw e (omega (arith, run_later (P t order m p) (one.step (P t order m p) w x) es))

passes_or_not : (p : Partition) (i s : ℕ) → (Passes p i s → ⊥) ⊎ Passes p i s
passes_or_not p i s = elim (cases_Bool (passes p i s)) [
  | inl e ↦ inr ((decides_passes p i s).0 e)
  | inr e ↦ inl (λ h. both_ways _ e ((decides_passes p i s).1 h))
]

-- From a start at which a task does not pass, the plain machine has a record with a late job.
module _ (t : Timetable) (order : Order) (m : Module) (ok : Lawful t order m) where
  -- a task that does not pass at some start
  abbrev Stuck : ℕ → Type 0
  Stuck p = (i : ℕ) × (i < size (P t order m p)) × ((s : ℕ) × (s < t.frame) × (Passes (P t order m p) i s → ⊥))

  stuck_or_not : (p : ℕ) → Stuck p ⊎ ((i : ℕ) → i < size (P t order m p) → InTime (P t order m p) t.frame i)
  stuck_or_not p = find_below (size (P t order m p)) _ _ (λ i. find_below t.frame _ _ (passes_or_not (P t order m p) i))

  abbrev HasLateRecord : Type 0
  HasLateRecord = (start : ℕ) × (r : List Entry) × LateRecord (g t order m) m start r

  late_from : (p : ℕ) → Stuck p → HasLateRecord
  unfolding size
  late_from p v = (
    v.2.0,
    flight (g t order m) m (new v.2.0) (lifts p f.0 ++ (tick ∷ [])),
    (
      lifts p f.0,
      [],
      refl,
      (p, f.1, f.2, now_soon, late_is t order m p st f.1 ∙ ap (λ w. one.late (P t order m p) w f.1) seen ∙ f.4),
    ),
  )
    where
      pl : p < length m
      pl = has_part m p v.0 v.1

      f : (es : List one.Event) × (j : ℕ) × (j < size (P t order m p)) × ((j ≡ v.0) ⊎ ((P t order m p).before j v.0 ≡ true)) × (one.late (P t order m p) (one.run (P t order m p) (one.fresh v.2.0) es) j ≡ true) × ((one.run (P t order m p) (one.fresh v.2.0) es).now < v.2.0 + D (P t order m p) v.0)
      f = needed (P t order m p) v.0 v.2.0 (proper t order m ok p) v.1 v.2.2

      st : MachineState
      st = flown (g t order m) m (new v.2.0) (lifts p f.0)

      soon : (one.run (P t order m p) (one.fresh v.2.0) f.0).now < last_tick
      soon = omega (arith, f.5, (limits m ok.limits).costs p v.0 v.1, ok.timetable.frame_within, v.2.1)

      starts : view p (new v.2.0) ≡ one.fresh v.2.0
      starts = ap (λ (n : ℕ). record { now = n; tasks = (one.fresh 0).tasks }) (omega (arith, ok.timetable.frame_within, v.2.1))

      seen : view p st ≡ one.run (P t order m p) (one.fresh v.2.0) f.0
      seen = view_lifts t order m p (lt-ltb p (length m) pl) (new v.2.0) (one.fresh v.2.0) f.0 starts (omega (arith, soon))

      now_soon : st.now < last_tick
      now_soon = omega (arith, soon, ap (λ (w : one.State). w.now) seen)

  -- where every task is refuted to be in time, some task is stuck
  pub not_in_time : (AllInTime t order m → ⊥) → HasLateRecord
  unfolding size
  not_in_time un = elim (find_below (length m) _ _ stuck_or_not) [
    | inl v ↦ late_from v.0 v.2
    | inr h ↦ absurd (un (λ p i l. h p (has_part m p i l) i l))
  ]

pub exact : Exact
exact given running order m ok own = (
  (λ un. not_in_time running order m ok (λ h. un (record { names_own = own; in_time = h }))),
  (λ v clear. never running order m ok clear.in_time v.0 v.1 v.2),
)
