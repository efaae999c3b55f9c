-- A request by the event that it is: the machine's answer, and the state that the machine leaves.
use Rattle.std.proofs.Common.{◌≡◌, ℕ, ◌+◌, Bool, true, false, cond, List, length, Some, None, Ok, Err, Result, vec_items, sym, refl, ap, ◌∙◌}
use Rattle.std.specs.Result.{result_err}
use Rattle.std.proofs.lemmas.List.{length-map}
use Rattle.model.specs.declared.call.Request.{Request}
use Rattle.model.specs.declared.call.Request.TheVariants as request
use Rattle.model.specs.declared.refusal.Refusal.{Refusal}
use Rattle.model.specs.declared.reply.Reply.{Reply}
use Rattle.model.specs.declared.reply.Reply.TheVariants.{Due, Count}
use Rattle.model.specs.Machine.{noted, unless, refusal, answered, obeyed, told, asked, refused_of}
use Rattle.jobs.specs.declared.event.Event.{Event}
use Rattle.jobs.specs.declared.event.Event.TheVariants as event
use Rattle.jobs.specs.declared.job_table.JobTable.{JobTable}
use Rattle.jobs.specs.declared.running_task.RunningTask.{RunningTask}
use Rattle.jobs.specs.Events.{outcome_in}
use Rattle.jobs.specs.Tables.{Answered, Leaves, answer_to, reply_of, state_by, state_of, tasks_in}
use Rattle.jobs.proofs.Events.{task_read}

-- Two tests in a row, as a result and as a refusal.
module _ (d : ℕ) (m n : Refusal) where
  pub same_refusal : (a b : Bool) → unless a m (unless b n None) ≡ result_err (cond a (cond b (Ok d) (Err n)) (Err m))
  unfolding unless
  same_refusal true true = refl
  same_refusal true false = refl
  same_refusal false b = refl

  pub same_reply : (reply : ℕ → Reply) (a b : Bool) → reply_of reply (cond a (cond b (Ok d) (Err n)) (Err m)) ≡ told (unless a m (unless b n None)) (reply d)
  unfolding unless told
  same_reply reply true true = refl
  same_reply reply true false = refl
  same_reply reply false b = refl

module _ (t : JobTable) (now i : ℕ) where
  abbrev xs : List RunningTask
  xs = vec_items t.tasks

  -- an event at task i that is the request a
  module _ (a : Request) (e : Event) (reply : ℕ → Reply)
      (refusal_is : refusal (tasks_in t) now (state_of t) a ≡ result_err (outcome_in xs i e))
      (reply_is : reply_of reply (outcome_in xs i e) ≡ answer_to t now a)
      (obeyed_is : asked now (state_of t) a None ≡ state_by t i e)
      (noted_is : (n : Refusal) → asked now (state_of t) a (Some n) ≡ noted (state_of t) (record { refusal = n; task = i; tick = now })) where
    by_event : (new : JobTable) (r : Result ℕ Refusal) → r ≡ outcome_in xs i e → Leaves t now i e r new → tasks_in new ≡ tasks_in t → Answered t new now a (reply_of reply r)
    by_event new (Ok k) is leaves kept = record {
      answer = ap (reply_of reply) is ∙ reply_is;
      state = leaves ∙ sym obeyed_is ∙ ap (asked now (state_of t) a) (ap result_err is ∙ sym refusal_is);
      tasks = kept;
    }
    by_event new (Err n) is leaves kept = record {
      answer = ap (reply_of reply) is ∙ reply_is;
      state = leaves ∙ sym (noted_is n) ∙ ap (asked now (state_of t) a) (ap result_err is ∙ sym refusal_is);
      tasks = kept;
    }

  as_many : length (tasks_in t) ≡ length xs
  as_many = length-map xs (λ x. x.task)

  released_refusal : refusal (tasks_in t) now (state_of t) (request.Release i) ≡ result_err (outcome_in xs i (event.Release now))
  unfolding refusal
  released_refusal = rw (as_many, task_read xs i) (same_refusal _ _ _ _ _)

  released_reply : reply_of (λ d. Due (now + d)) (outcome_in xs i (event.Release now)) ≡ answer_to t now (request.Release i)
  unfolding refusal answered
  released_reply = rw (as_many, task_read xs i) (same_reply _ _ _ _ _ _)

  -- a release
  pub by_release : (new : JobTable) (r : Result ℕ Refusal) → r ≡ outcome_in xs i (event.Release now) → Leaves t now i (event.Release now) r new → tasks_in new ≡ tasks_in t →
      Answered t new now (request.Release i) (reply_of (λ d. Due (now + d)) r)
  unfolding asked obeyed refused_of
  by_release = by_event (request.Release i) (event.Release now) (λ d. Due (now + d)) released_refusal released_reply refl (λ n. refl)

  ended_refusal : refusal (tasks_in t) now (state_of t) (request.End i) ≡ result_err (outcome_in xs i event.End)
  unfolding refusal
  ended_refusal = rw as_many (same_refusal _ _ _ _ _)

  ended_reply : reply_of Count (outcome_in xs i event.End) ≡ answer_to t now (request.End i)
  unfolding refusal answered
  ended_reply = rw as_many (same_reply _ _ _ _ _ _)

  -- an end
  pub by_end : (new : JobTable) (r : Result ℕ Refusal) → r ≡ outcome_in xs i event.End → Leaves t now i event.End r new → tasks_in new ≡ tasks_in t →
      Answered t new now (request.End i) (reply_of Count r)
  unfolding asked obeyed refused_of
  by_end = by_event (request.End i) event.End Count ended_refusal ended_reply refl (λ n. refl)
