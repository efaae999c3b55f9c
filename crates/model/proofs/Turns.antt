-- Who runs in a tick, and what the tick does to a task.
use Rattle.std.proofs.Common.{◌≡◌, ℕ, ◌+◌, ◌-◌, ◌<◌, Bool, true, false, cond, leb, is_some, Some, None, Option, sym, refl, ap, ◌∙◌, inl, inr, arith}
use Rattle.std.proofs.lemmas.Bool.{both_ways, cases_eq, cond-false, cond-true, eq-eqb, leb-false, leb-true, ne_eqb}
use Rattle.model.specs.declared.job.Job.{Job}
use Rattle.model.specs.declared.job.TaskState.{TaskState}
use Rattle.model.specs.InTime.{C, Partition, size}
use Rattle.model.specs.Machine.{is_runner, one_on, put, ready, released}
use Rattle.model.specs.Ranges.{first_such}
use Rattle.model.proofs.Firsts.{First, Found, NonePasses, found}
use Rattle.model.proofs.OnePartition.{Proper, State, after_work, is_open, runner}

-- the three kinds of tick
pub data Turn (p : Partition) (st : State) : Type 0 where
  not_owned : p.owns st.now ≡ false → runner p st ≡ None → Turn p st
  all_closed : NonePasses (is_open st.tasks) (size p) → runner p st ≡ None → Turn p st
  runs : (k : ℕ) → p.owns st.now ≡ true → First p.before (is_open st.tasks) (size p) k → runner p st ≡ Some k → Turn p st

pub turn : (p : Partition) → Proper p → (st : State) → Turn p st
unfolding runner
turn p ok st = go (p.owns st.now) refl
  where
    seen : (r : Option ℕ) → first_such p.before (is_open st.tasks) (size p) ≡ r → p.owns st.now ≡ true → Found p.before (is_open st.tasks) (size p) r → Turn p st
    seen None e o h = all_closed h (cond-true _ _ _ o ∙ e)
    seen (Some k) e o h = runs k o h (cond-true _ _ _ o ∙ e)

    go : (b : Bool) → p.owns st.now ≡ b → Turn p st
    go false o = not_owned o (cond-false _ _ _ o)
    go true o = seen (first_such p.before (is_open st.tasks) (size p)) refl o (found p.before (is_open st.tasks) (size p) ok.transitive ok.total (size p) (omega arith))

-- what is left to run of a job of cost c
unfoldable pub owed : ℕ → Option Job → ℕ
owed c None = 0
owed c (Some b) = c - b.ran

pub owed_closed : (c : ℕ) (o : Option Job) → is_some o ≡ false → owed c o ≡ 0
unfolding owed
owed_closed c None h = refl
owed_closed c (Some b) h = absurd (both_ways true h refl)

abbrev pub Unspent : ℕ → Option Job → Type 0
Unspent c o = (b : Job) → o ≡ Some b → b.ran < c

module _ (p : Partition) (st : State) (j : ℕ) where
  pub rests : is_runner (runner p st) j ≡ false → after_work p st j ≡ st.tasks j
  unfolding after_work
  rests h = cond-false _ _ _ h

  pub rests_none : runner p st ≡ None → after_work p st j ≡ st.tasks j
  unfolding is_runner
  rests_none h = rests (ap (λ r. is_runner r j) h)

  pub rests_other : (k : ℕ) → runner p st ≡ Some k → (j ≡ k → ⊥) → after_work p st j ≡ st.tasks j
  unfolding is_runner
  rests_other k h d = rests (ap (λ r. is_runner r j) h ∙ ne_eqb j k d)

  pub works : (k : ℕ) → runner p st ≡ Some k → j ≡ k → (after_work p st j).job ≡ one_on (C p j) (st.tasks j).job
  unfolding is_runner after_work
  works k h d = ap (λ (x : TaskState). x.job) (cond-true _ _ _ (ap (λ r. is_runner r j) h ∙ eq-eqb j k d))

  same_last_at : (b : Bool) → (cond b (record { last = (st.tasks j).last; job = one_on (C p j) (st.tasks j).job }) (st.tasks j)).last ≡ (st.tasks j).last
  same_last_at true = refl
  same_last_at false = refl

  pub same_last : (after_work p st j).last ≡ (st.tasks j).last
  unfolding after_work
  same_last = same_last_at (is_runner (runner p st) j)

-- an open job one tick on
pub one_less : (c : ℕ) (o : Option Job) → is_some o ≡ true → Unspent c o → owed c (one_on c o) + 1 ≡ owed c o
unfolding owed one_on
one_less c None h u = absurd (both_ways false refl h)
one_less c (Some b) h u = go (leb c (b.ran + 1)) refl
  where
    go : (t : Bool) → leb c (b.ran + 1) ≡ t → owed c (cond t None (Some (record { released = b.released; ran = b.ran + 1 }))) + 1 ≡ c - b.ran
    go true e = omega (arith, u b refl, leb-true c (b.ran + 1) e)
    go false e = omega (arith, leb-false c (b.ran + 1) e)

-- what a job that is still open was before
pub was : (c : ℕ) (o : Option Job) (b : Job) → one_on c o ≡ Some b →
    (a : Job) × (o ≡ Some a) × (b.released ≡ a.released) × (b.ran ≡ a.ran + 1) × (b.ran < c)
unfolding one_on
was c None b e = cc
was c (Some a) b e = go (leb c (a.ran + 1)) refl e
  where
    go : (t : Bool) → leb c (a.ran + 1) ≡ t → cond t None (Some (record { released = a.released; ran = a.ran + 1 })) ≡ Some b →
        (x : Job) × (Some a ≡ Some x) × (b.released ≡ x.released) × (b.ran ≡ x.ran + 1) × (b.ran < c)
    go true l e = cc
    go false l e =
        let r : b.ran ≡ a.ran + 1 = cc in
        let q : b.released ≡ a.released = cc in
        (a, refl, q, r, omega (arith, leb-false c (a.ran + 1) l))

abbrev pub job_of : TaskState → Option Job
job_of x = x.job

pub put_same : {A : Type 0} (xs : ℕ → A) (n : ℕ) (x : A) → put xs n x n ≡ x
unfolding put
put_same xs n x = cond-true _ _ _ (eq-eqb n n refl)

pub put_other : {A : Type 0} (xs : ℕ → A) (n : ℕ) (x : A) (j : ℕ) → (j ≡ n → ⊥) → put xs n x j ≡ xs j
unfolding put
put_other xs n x j d = cond-false _ _ _ (ne_eqb j n d)

pub new_job : (now : ℕ) (b : Job) → (released now).job ≡ Some b → (b.released ≡ now) × (b.ran ≡ 0)
unfolding released
new_job now b q =
    let r : b.released ≡ now = cc in
    let a : b.ran ≡ 0 = cc in
    (r, a)

pub new_owed : (c now : ℕ) → owed c (released now).job ≡ c
unfolding released owed
new_owed c now = omega arith

pub new_ready : (t now : ℕ) → ready t (released now).last ≡ now + t
unfolding released ready
new_ready t now = refl

one_on_open : (c : ℕ) (o : Option Job) → is_some (one_on c o) ≡ true → is_some o ≡ true
unfolding one_on
one_on_open c None h = h
one_on_open c (Some b) h = refl

-- what the work of a tick leaves of each task
module _ (p : Partition) (st : State) (j : ℕ) where
  pub unspent_after : Turn p st → Unspent (C p j) (st.tasks j).job → Unspent (C p j) (after_work p st j).job
  unspent_after (not_owned o r) h b q = h b (ap job_of (sym (rests_none p st j r)) ∙ q)
  unspent_after (all_closed c r) h b q = h b (ap job_of (sym (rests_none p st j r)) ∙ q)
  unspent_after (runs k o f r) h b q =
      elim (cases_eq j k) [
        | inl z ↦ (was (C p j) (st.tasks j).job b (sym (works p st j k r z) ∙ q)).4
        | inr z ↦ h b (ap job_of (sym (rests_other p st j k r z)) ∙ q)
      ]

  pub was_open : is_some (after_work p st j).job ≡ true → is_some (st.tasks j).job ≡ true
  unfolding after_work
  was_open = elim (is_runner (runner p st) j) as (λ b. is_some (cond b (record { last = (st.tasks j).last; job = one_on (C p j) (st.tasks j).job }) (st.tasks j)).job ≡ true → is_some (st.tasks j).job ≡ true) [
    | true ↦ one_on_open (C p j) (st.tasks j).job
    | false ↦ λ h. h
  ]

  pub same_release : Turn p st → (b : Job) → (after_work p st j).job ≡ Some b → (a : Job) × ((st.tasks j).job ≡ Some a) × (b.released ≡ a.released)
  same_release (not_owned o r) b q = (b, ap job_of (sym (rests_none p st j r)) ∙ q, refl)
  same_release (all_closed c r) b q = (b, ap job_of (sym (rests_none p st j r)) ∙ q, refl)
  same_release (runs k o f r) b q =
      elim (cases_eq j k) [
        | inl z ↦ let a = was (C p j) (st.tasks j).job b (sym (works p st j k r z) ∙ q) in (a.0, a.1, a.2)
        | inr z ↦ (b, ap job_of (sym (rests_other p st j k r z)) ∙ q, refl)
      ]
