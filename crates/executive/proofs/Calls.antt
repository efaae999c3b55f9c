-- From what the tables answer and keep to the contracts of the calls.
use Rattle.std.proofs.Common.{◌≡◌, ℕ, ◌+◌, ◌<◌, ◌≤◌, true, false, List, map, length, get_or, set, Some, None, Ok, Err, Result, vec_items, vec_len, sym, refl, ap, ◌∙◌, inl, inr, arith}
use Rattle.std.proofs.lemmas.List.{set-get_or}
use Rattle.std.proofs.lemmas.Bool.{cases_Bool, cases_lt, cond-false, cond-true, le-ltb, lt-ltb}
use Rattle.model.specs.declared.call.Call.{Call}
use Rattle.model.specs.declared.call.Call.TheVariants.{Of as call}
use Rattle.model.specs.declared.call.Request.{Request}
use Rattle.model.specs.declared.refusal.Refusal.{Refusal}
use Rattle.model.specs.declared.refusal.Refusal.TheVariants.{NoSuchPartition, NotCleared}
use Rattle.model.specs.declared.reply.Reply.{Reply}
use Rattle.model.specs.Machine.{DispatchRule, after, last_tick, reply}
use Rattle.model.specs.Timetables.{Timetable}
use Rattle.jobs.specs.declared.job_table.JobTable.{JobTable}
use Rattle.jobs.specs.Tables.{Answered as TableAnswered, tasks_in}
use Rattle.jobs.specs.Ticks.{next_tick}
use Rattle.executive.specs.declared.running.Running.{Running}
use Rattle.executive.specs.Calls.{Answered, admitted}
use Rattle.executive.specs.States.{clears, engine_of, sealed_module, state_in, told_verdict}
use Rattle.executive.proofs.Tables.{kept, lacks_answer, lacks_state, request_answer, request_state, state}

module _ {T D : Type 0} (means : T → Timetable) (rule : D → DispatchRule) (x new : Running T D) (c : Call) where
  -- a call of a cleared module
  pub answered : (r : Result Reply Refusal) → clears (told_verdict x.sealed) ≡ true → r ≡ reply (engine_of means rule x.sealed) (sealed_module x.sealed) (state_in x) c →
      state_in new ≡ after (engine_of means rule x.sealed) (sealed_module x.sealed) (state_in x) c → new.sealed ≡ x.sealed → Answered means rule x new c r
  answered r v a s e = record { answer = a ∙ sym (cond-true _ _ _ v); state = s ∙ sym (cond-true _ _ _ v); «sealed» = e }

-- the clock goes on, unless it is at the last tick
pub clock_on : (u v : ℕ) → Some v ≡ next_tick u → (u < last_tick) × (v ≡ u + 1)
clock_on u v e = elim (cases_lt u last_tick) [
  | inl l ↦ (l, (let z : Some v ≡ Some (u + 1) = e ∙ cond-true _ _ _ (lt-ltb u last_tick l) in cc))
  | inr l ↦ cc (sym (e ∙ cond-false _ _ _ (le-ltb u last_tick l)))
]

pub clock_stops : (u : ℕ) → None ≡ next_tick u → last_tick ≤ u
clock_stops u e = elim (cases_lt u last_tick) [
  | inl l ↦ cc (e ∙ cond-true _ _ _ (lt-ltb u last_tick l))
  | inr l ↦ l
]

-- Requests of a module x to its partition p.
module _ {T D : Type 0} (means : T → Timetable) (rule : D → DispatchRule) (x : Running T D) (p : ℕ) (a : Request) where
  abbrev ts : List JobTable
  ts = vec_items x.tables

  abbrev now : ℕ
  now = x.clock

  not_cleared : clears (told_verdict x.sealed) ≡ false → Answered means rule x x (call p a) (Err NotCleared)
  not_cleared v = record { answer = sym (cond-false _ _ _ v); state = sym (cond-false _ _ _ v); «sealed» = refl }

  -- the module lacks the partition
  lacks : clears (told_verdict x.sealed) ≡ true → length ts ≤ p → Answered means rule x x (call p a) (Err NoSuchPartition)
  lacks ok l =
      let g = engine_of means rule x.sealed in
      answered means rule x x (call p a) _ ok (lacks_answer ts _ x.level g now p a l) (lacks_state ts _ x.level g now p a l) refl

  -- a request that goes to no table
  pub turned_away : (n : Refusal) → Err n ≡ admitted x p → Answered means rule x x (call p a) (Err n)
  turned_away n e = elim (cases_Bool (clears (told_verdict x.sealed))) [
    | inl v ↦ elim (cases_lt p (vec_len x.tables)) [
      | inl l ↦ let z : Err n ≡ Ok p = e ∙ (cond-true _ _ _ v ∙ cond-true _ _ _ (lt-ltb p _ l)) in cc
      | inr l ↦
          let z : Err n ≡ Err NoSuchPartition = e ∙ (cond-true _ _ _ v ∙ cond-false _ _ _ (le-ltb p _ l)) in
          let w : n ≡ NoSuchPartition = cc in
          rw w (lacks v (omega (arith, x.tables.ok.0)))
    ]
    | inr v ↦
        let z : Err n ≡ Err NotCleared = e ∙ cond-false _ _ _ v in
        let w : n ≡ NotCleared = cc in
        rw w (not_cleared v)
  ]

  -- a request that goes to table i
  goes_to : (i : ℕ) → Ok i ≡ admitted x p → (clears (told_verdict x.sealed) ≡ true) × (p < length ts) × (i ≡ p)
  goes_to i e = elim (cases_Bool (clears (told_verdict x.sealed))) [
    | inl v ↦ elim (cases_lt p (vec_len x.tables)) [
      | inl l ↦
          let z : Ok i ≡ Ok p = e ∙ (cond-true _ _ _ v ∙ cond-true _ _ _ (lt-ltb p _ l)) in
          let w : i ≡ p = cc in
          (v, omega (arith, x.tables.ok.0), w)
      | inr l ↦ let z : Ok i ≡ Err NoSuchPartition = e ∙ (cond-true _ _ _ v ∙ cond-false _ _ _ (le-ltb p _ l)) in cc
    ]
    | inr v ↦ let z : Ok i ≡ Err NotCleared = e ∙ cond-false _ _ _ v in cc
  ]

  module _ (i : ℕ) (to : Ok i ≡ admitted x p) where
    pub is_there : i < length ts
    is_there = let v = goes_to i to in omega arith

    -- its table d answers
    module _ (d : JobTable) (here : d ≡ get_or ts i d) where
      pub asks : (t : JobTable) (new : Running T D) (r : Result Reply Refusal) → TableAnswered d t now a r → state_in new ≡ state now (set ts i t) → new.sealed ≡ x.sealed →
          Answered means rule x new (call p a) r
      asks t new r by s same =
          let g = engine_of means rule x.sealed in
          let v = goes_to i to in
          let at_p = rw v.2 at here in
          answered means rule x new (call p a) r v.0 (request_answer ts _ x.level p d v.1 at_p g now a r by.answer)
          (s ∙ (ap (λ j. state now (set ts j t)) v.2 ∙ request_state ts _ x.level p d v.1 at_p g now a t by.state)) same

      -- and is left as it is
      pub looks : (r : Result Reply Refusal) → TableAnswered d d now a r → Answered means rule x x (call p a) r
      looks r by = asks d x r by (ap (state now) (sym (ap (set ts i) here ∙ set-get_or ts i d))) refl

      -- its tasks are those of the sealed module
      pub stays_level : (t : JobTable) → tasks_in t ≡ tasks_in d → map tasks_in (set ts i t) ≡ sealed_module x.sealed
      stays_level t e = kept ts _ x.level i d is_there here t e
