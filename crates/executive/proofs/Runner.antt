-- A tick writes the state of no task but the one that ran.
use Rattle.std.proofs.Common.{◌≡◌, ℕ, ◌<◌, Bool, false, cond, eqb, Some, None, Ok, Option, Result, sym, refl, ap, ◌∙◌, subst₂, inl, inr}
use Rattle.std.proofs.lemmas.Bool.{and_cases, both_ways, cases_eq, cond-false, cond-true, eq-eqb, eqb-false, lt-ltb, ne_eqb}
use Rattle.model.specs.declared.call.Call.TheVariants.{Tick as tick}
use Rattle.model.specs.declared.refusal.Refusal.{Refusal}
use Rattle.model.specs.declared.reply.Reply.{Reply}
use Rattle.model.specs.declared.reply.Reply.TheVariants.{Turn as turn}
use Rattle.model.specs.Machine.{DispatchRule, Engine, MachineState, after, chosen, is_runner, last_tick, late, reply, runner, ticked, tick_reply, turn_reply, worked}
use Rattle.model.specs.Modules.{Module, tasks_of}
use Rattle.model.specs.Promises.{executive}
use Rattle.model.specs.FlightRecords.{is_tick, names_task, runs}
use Rattle.model.specs.Timetables.{Timetable, owned_by, owner_at}
use Rattle.executive.specs.Calls.{OnlyRunnerWritten}

module _ (t : Timetable) (rule : DispatchRule) (m : Module) (st : MachineState) where
  abbrev g : Engine
  g = executive t rule

  -- whether the answer names task i of partition p
  abbrev named : ℕ → ℕ → Result Reply Refusal → Bool
  named p i r = runs p i (record { call = tick; answer = r })

  by_choice : (p i : ℕ) (k : Option ℕ) → named p i (Ok (turn (turn_reply p (tasks_of m p) (st.partitions p).tasks k))) ≡ false → is_runner k i ≡ false
  unfolding runs is_tick names_task turn_reply is_runner
  by_choice p i None e = refl
  by_choice p i (Some k) e = ne_eqb i k (λ z. elim (and_cases (eqb p p) (eqb k i) e) [
    | inl f ↦ both_ways _ f (eq-eqb p p refl)
    | inr f ↦ eqb-false k i f (sym z)
  ])

  own_turn : (p i : ℕ) → named p i (Ok (turn (tick_reply g m st (Some p)))) ≡ false → is_runner (chosen g p (tasks_of m p) (st.partitions p).tasks) i ≡ false
  unfolding tick_reply
  own_turn p i e = by_choice p i (chosen g p (tasks_of m p) (st.partitions p).tasks) e

  by_owner : (p i : ℕ) (o : Option ℕ) → named p i (Ok (turn (tick_reply g m st o))) ≡ false → is_runner (cond (owned_by p o) (chosen g p (tasks_of m p) (st.partitions p).tasks) None) i ≡ false
  unfolding owned_by is_runner
  by_owner p i None e = refl
  by_owner p i (Some q) e = elim (cases_eq p q) [
    | inl z ↦
        let mine : named p i (Ok (turn (tick_reply g m st (Some p)))) ≡ false = ap (λ x. named p i (Ok (turn (tick_reply g m st (Some x))))) z ∙ e in
        ap (λ k. is_runner k i) (cond-true _ _ _ (eq-eqb p q z)) ∙ own_turn p i mine
    | inr n ↦ ap (λ k. is_runner k i) (cond-false _ _ _ (ne_eqb p q n))
  ]

  module _ (l : st.now < last_tick) where
    left_alone : (p i : ℕ) → named p i (reply g m st tick) ≡ false → ((after g m st tick).partitions p).tasks i ≡ (st.partitions p).tasks i
    unfolding after reply ticked late worked runner
    left_alone p i e =
        let told : named p i (Ok (turn (tick_reply g m st (owner_at t st.now)))) ≡ false = ap (named p i) (sym (cond-true _ _ _ (lt-ltb st.now last_tick l))) ∙ e in
        ap (λ (x : MachineState). (x.partitions p).tasks i) (cond-true _ _ _ (lt-ltb st.now last_tick l)) ∙ cond-false _ _ _ (by_owner p i (owner_at t st.now) told)

    same_faults : (p : ℕ) → ((after g m st tick).partitions p).faults ≡ (st.partitions p).faults
    unfolding after ticked
    same_faults p = ap (λ (x : MachineState). (x.partitions p).faults) (cond-true _ _ _ (lt-ltb st.now last_tick l))

    same_lost : (p : ℕ) → ((after g m st tick).partitions p).lost ≡ (st.partitions p).lost
    unfolding after ticked
    same_lost p = ap (λ (x : MachineState). (x.partitions p).lost) (cond-true _ _ _ (lt-ltb st.now last_tick l))

    pub tick_writes : (new : MachineState) (r : Result Reply Refusal) → r ≡ reply g m st tick → new ≡ after g m st tick → OnlyRunnerWritten st new r
    tick_writes new r told next = subst₂ (OnlyRunnerWritten st) (sym next) (sym told) (record { others = left_alone; faults = same_faults; lost = same_lost })
