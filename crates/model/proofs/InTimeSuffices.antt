-- A task that is in time is never late.
use Rattle.std.proofs.Common.{◌≡◌, ℕ, ◌+◌, ◌<◌, ◌≤◌, Bool, true, false, cond, ◌⊎◌, is_some, Some, None, Option, sym, refl, ap, ◌∙◌, subst, inl, inr, arith}
use Rattle.std.proofs.lemmas.Bool.{and_parts, both_ways, cases_Bool, cases_eq, cond-false, cond-true, leb-true, lt-leb, ltb-true}
use Rattle.model.specs.declared.job.Job.{Job}
use Rattle.model.specs.declared.job.TaskState.{TaskState}
use Rattle.model.specs.InTime.{C, D, Partition, Passes, T, size}
use Rattle.model.specs.Machine.{closed, overdue, put, ready, released}
use Rattle.model.proofs.BusyWindows.{BusyWindow, admits, goes_on, starts, weaker}
use Rattle.model.proofs.OnePartition.{Event, Proper, State, after_work, end, fresh, late, may_end, may_release, release, runner, step, tick}
use Rattle.model.proofs.Sums.{at, at_other, at_same, before_more}
use Rattle.model.proofs.Turns.{Turn, Unspent, all_closed, job_of, new_job, new_owed, new_ready, not_owned, one_less, owed, put_other, put_same, rests_none, rests_other, runs, same_last, turn, unspent_after, was, works}

pub record Inv (p : Partition) (i now : ℕ) (xs : ℕ → TaskState) : Type 0 where
  pub unspent : (j : ℕ) → j < size p → Unspent (C p j) (xs j).job
  pub past : (j : ℕ) → j < size p → ready (T p j) (xs j).last ≤ now + T p j
  pub lead : (s : ℕ) × BusyWindow p i s now xs 0
  pub own : (b : Job) → (xs i).job ≡ Some b → (s : ℕ) × (s ≤ b.released) × BusyWindow p i s now xs b.ran

module _ (p : Partition) (ok : Proper p) (i : ℕ) (il : i < size p) (st : State) (h : Inv p i st.now st.tasks) where
  past_after : (j : ℕ) → j < size p → ready (T p j) (after_work p st j).last ≤ st.now + 1 + T p j
  past_after j l = rw (same_last p st j) (omega (arith, h.past j l))

  -- a tick that the partition does not own
  window_idle : (s own : ℕ) → own < C p i → p.owns st.now ≡ false → runner p st ≡ None →
      BusyWindow p i s st.now st.tasks own → BusyWindow p i s (st.now + 1) (after_work p st) own
  window_idle s own few o r v =
      goes_on p ok i il s st.now st.tasks (after_work p st) own own v v.e
      (omega (arith, cond-false {A = ℕ} _ 1 0 o))
      (λ j l b. rw (rests_none p st j r) (omega arith))
      (λ j l. same_last p st j)
      h.past
      few

  -- a tick of task k, which goes before i
  window_before : (s own k : ℕ) → own < C p i → p.owns st.now ≡ true → runner p st ≡ Some k → k < size p →
      is_some (st.tasks k).job ≡ true → p.before k i ≡ true →
      BusyWindow p i s st.now st.tasks own → BusyWindow p i s (st.now + 1) (after_work p st) own
  window_before s own k few o r kl ko kb v =
      goes_on p ok i il s st.now st.tasks (after_work p st) own own v (λ j. v.e j + at k j)
      (omega (arith, cond-true {A = ℕ} _ 1 0 o, before_more p i v.e k kl kb))
      (λ j l b. elim (cases_eq j k) [
        | inl z ↦ mine j l z
        | inr z ↦ rw (rests_other p st j k r z, at_other k j z) (omega arith)
      ])
      (λ j l. same_last p st j)
      h.past
      few
    where
      mine : (j : ℕ) → j < size p → j ≡ k → v.e j + at k j + owed (C p j) (after_work p st j).job ≤ v.e j + owed (C p j) (st.tasks j).job
      mine j l z =
          rw (works p st j k r z)
          (omega (arith, one_less (C p j) (st.tasks j).job (ap (λ x. is_some (st.tasks x).job) z ∙ ko) (h.unspent j l), ap (at k) z, at_same k))

  -- a tick of task i
  window_own : (s own : ℕ) → own + 1 < C p i → p.owns st.now ≡ true → runner p st ≡ Some i →
      BusyWindow p i s st.now st.tasks own → BusyWindow p i s (st.now + 1) (after_work p st) (own + 1)
  window_own s own few o r v =
      goes_on p ok i il s st.now st.tasks (after_work p st) own (own + 1) v v.e
      (omega (arith, cond-true {A = ℕ} _ 1 0 o))
      (λ j l b. rw (rests_other p st j i r (λ z. both_ways _ (ok.irreflexive i) (ap (λ x. p.before x i) (sym z) ∙ b))) (omega arith))
      (λ j l. same_last p st j)
      h.past
      few

  lead_after : Turn p st → (s : ℕ) × BusyWindow p i s (st.now + 1) (after_work p st) 0
  lead_after (not_owned o r) = (h.lead.0, window_idle h.lead.0 0 (ok.costs i il).0 o r h.lead.1)
  lead_after (all_closed c r) =
      (st.now + 1, starts p ok i il (st.now + 1) (after_work p st) (λ j l b. ap (λ (x : TaskState). is_some x.job) (rests_none p st j r) ∙ c j l))
  lead_after (runs k o f r) =
      elim (cases_Bool (p.before k i)) [
        | inl b ↦ (h.lead.0, window_before h.lead.0 0 k (ok.costs i il).0 o r f.below f.holds b h.lead.1)
        | inr b ↦ (st.now + 1, starts p ok i il (st.now + 1) (after_work p st) (shut b))
      ]
    where
      not_k : p.before k i ≡ false → (j : ℕ) → p.before j i ≡ true → j ≡ k → ⊥
      not_k b j c z = both_ways _ b (ap (λ x. p.before x i) (sym z) ∙ c)

      shut_at : p.before k i ≡ false → (j : ℕ) → j < size p → p.before j i ≡ true → (t : Bool) → is_some (st.tasks j).job ≡ t → t ≡ false
      shut_at b j l c false e = refl
      shut_at b j l c true e =
          elim (f.least j l e) [
            | inl z ↦ absurd (not_k b j c z)
            | inr z ↦ absurd (both_ways _ b (ok.transitive k j i z c))
          ]

      shut : p.before k i ≡ false → (j : ℕ) → j < size p → p.before j i ≡ true → is_some (after_work p st j).job ≡ false
      shut b j l c = ap (λ (x : TaskState). is_some x.job) (rests_other p st j k r (not_k b j c)) ∙ shut_at b j l c (is_some (st.tasks j).job) refl

  own_after : Turn p st → (b : Job) → (after_work p st i).job ≡ Some b → (s : ℕ) × (s ≤ b.released) × BusyWindow p i s (st.now + 1) (after_work p st) b.ran
  own_after (not_owned o r) b q =
      let e : (st.tasks i).job ≡ Some b = ap job_of (sym (rests_none p st i r)) ∙ q in
      let v = h.own b e in
      (v.0, v.1, window_idle v.0 b.ran (h.unspent i il b e) o r v.2)
  own_after (all_closed c r) b q =
      let e : (st.tasks i).job ≡ Some b = ap job_of (sym (rests_none p st i r)) ∙ q in
      absurd (both_ways _ (c i il) (ap is_some e))
  own_after (runs k o f r) b q = elim (cases_eq i k) [ inl z ↦ self z | inr z ↦ other z ]
    where
      self : i ≡ k → (s : ℕ) × (s ≤ b.released) × BusyWindow p i s (st.now + 1) (after_work p st) b.ran
      self z =
          let a = was (C p i) (st.tasks i).job b (sym (works p st i k r z) ∙ q) in
          let v = h.own a.0 a.1 in
          let n = window_own v.0 a.0.ran (omega (arith, a.3, a.4)) o (r ∙ ap Some (sym z)) v.2 in
          (v.0, omega (arith, v.1, a.2), subst (λ x. BusyWindow p i v.0 (st.now + 1) (after_work p st) x) (sym a.3) n)

      other : (i ≡ k → ⊥) → (s : ℕ) × (s ≤ b.released) × BusyWindow p i s (st.now + 1) (after_work p st) b.ran
      other z =
          let e : (st.tasks i).job ≡ Some b = ap job_of (sym (rests_other p st i k r z)) ∙ q in
          let v = h.own b e in
          elim (f.least i il (ap is_some e)) [
            | inl y ↦ absurd (z y)
            | inr y ↦ (v.0, v.1, window_before v.0 b.ran k (h.unspent i il b e) o r f.below f.holds y v.2)
          ]

  pub work_keeps : Inv p i (st.now + 1) (after_work p st)
  work_keeps = let t = turn p ok st in record { unspent = λ j l. unspent_after p st j t (h.unspent j l); past = past_after; lead = lead_after t; own = own_after t }

-- a task as it was, or with its job closed
abbrev Kept : TaskState → TaskState → Type 0
Kept x y = (y ≡ x) ⊎ (y ≡ closed x)

kept_last : (x y : TaskState) → Kept x y → y.last ≡ x.last
unfolding closed
kept_last x y (inl e) = ap (λ (z : TaskState). z.last) e
kept_last x y (inr e) = ap (λ (z : TaskState). z.last) e

kept_owed : (c : ℕ) (x y : TaskState) → Kept x y → owed c y.job ≤ owed c x.job
unfolding closed owed
kept_owed c x y (inl e) = rw e (omega arith)
kept_owed c x y (inr e) = rw e (omega arith)

kept_job : (x y : TaskState) (b : Job) → Kept x y → y.job ≡ Some b → x.job ≡ Some b
unfolding closed
kept_job x y b (inl e) q = ap job_of (sym e) ∙ q
kept_job x y b (inr e) q = cc

kept_when : (t : Bool) (x : TaskState) → Kept x (cond t (closed x) x)
kept_when true x = inr refl
kept_when false x = inl refl

module _ (p : Partition) (ok : Proper p) (i : ℕ) (il : i < size p) where
  pub close_keeps : (now : ℕ) (xs ys : ℕ → TaskState) → Inv p i now xs → ((j : ℕ) → Kept (xs j) (ys j)) → Inv p i now ys
  close_keeps now xs ys h k = record {
    unspent = λ j l b q. h.unspent j l b (kept_job (xs j) (ys j) b (k j) q);
    past = λ j l. rw (kept_last (xs j) (ys j) (k j)) (h.past j l);
    lead = (h.lead.0, weak h.lead.0 0 h.lead.1);
    own = λ b q. let v = h.own b (kept_job (xs i) (ys i) b (k i) q) in (v.0, v.1, weak v.0 b.ran v.2);
  }
    where
      weak : (s own : ℕ) → BusyWindow p i s now xs own → BusyWindow p i s now ys own
      weak s own v =
          weaker p ok i il s now xs ys own v (λ j l. kept_owed (C p j) (xs j) (ys j) (k j)) (λ j l. rw (kept_last (xs j) (ys j) (k j)) (omega arith))

  pub begins : (start : ℕ) → Inv p i start (fresh start).tasks
  unfolding ready
  begins start = record {
    unspent = λ j l b q. cc;
    past = λ j l. omega arith;
    lead = (start, starts p ok i il start (fresh start).tasks (λ j l b. refl));
    own = λ b q. cc;
  }

  tick_keeps : (st : State) → Inv p i st.now st.tasks → Inv p i (step p st tick).now (step p st tick).tasks
  unfolding step
  tick_keeps st h =
      close_keeps (st.now + 1) (after_work p st) (step p st tick).tasks (work_keeps p ok i il st h) (λ j. kept_when (late p st j) (after_work p st j))

  end_keeps : (st : State) (n : ℕ) → Inv p i st.now st.tasks → Inv p i (step p st (end n)).now (step p st (end n)).tasks
  unfolding step
  end_keeps st n h = elim (may_end p st n) as (λ t. Inv p i (cond t ended st).now (cond t ended st).tasks) [
    | true ↦ close_keeps st.now st.tasks (put st.tasks n (closed (st.tasks n))) h kept
    | false ↦ h
  ]
    where
      ended : State
      ended = record { now = st.now; tasks = put st.tasks n (closed (st.tasks n)) }

      kept : (j : ℕ) → Kept (st.tasks j) (put st.tasks n (closed (st.tasks n)) j)
      kept j = elim (cases_eq j n) [
        | inl e ↦ inr (rw e (put_same st.tasks n (closed (st.tasks n))))
        | inr d ↦ inl (put_other st.tasks n _ j d)
      ]

  release_keeps_if : (now n : ℕ) (xs : ℕ → TaskState) → n < size p → ready (T p n) (xs n).last ≤ now → Inv p i now xs → Inv p i now (put xs n (released now))
  release_keeps_if now n xs nl free h = record {
    unspent = λ j l b q. elim (cases_eq j n) [
      | inl e ↦ omega (arith, (new_job now b (job_same j e b q)).1, (ok.costs j l).0)
      | inr d ↦ h.unspent j l b (job_other j d b q)
    ];
    past = λ j l. elim (cases_eq j n) [
      | inl e ↦ rw (e, put_same xs n (released now), new_ready (T p n) now) (omega arith)
      | inr d ↦ rw (put_other xs n (released now) j d) (h.past j l)
    ];
    lead = (h.lead.0, admitted h.lead.0 0 h.lead.1);
    own = λ b q. elim (cases_eq i n) [
      | inl e ↦ first b (job_same i e b q)
      | inr d ↦ let v = h.own b (job_other i d b q) in (v.0, v.1, admitted v.0 b.ran v.2)
    ];
  }
    where
      job_same : (j : ℕ) → j ≡ n → (b : Job) → (put xs n (released now) j).job ≡ Some b → (released now).job ≡ Some b
      job_same j e b q = ap job_of (sym (put_same xs n (released now))) ∙ ap (λ x. (put xs n (released now) x).job) (sym e) ∙ q

      job_other : (j : ℕ) → (j ≡ n → ⊥) → (b : Job) → (put xs n (released now) j).job ≡ Some b → (xs j).job ≡ Some b
      job_other j d b q = ap job_of (sym (put_other xs n (released now) j d)) ∙ q

      admitted : (s own : ℕ) → BusyWindow p i s now xs own → BusyWindow p i s now (put xs n (released now)) own
      admitted s own v =
          admits p ok i il s now xs (put xs n (released now)) own n v nl free
          (rw (put_same xs n (released now)) (omega (arith, new_owed (C p n) now)))
          (rw (put_same xs n (released now)) (new_ready (T p n) now))
          (λ j d. put_other xs n (released now) j d)

      first : (b : Job) → (released now).job ≡ Some b → (s : ℕ) × (s ≤ b.released) × BusyWindow p i s now (put xs n (released now)) b.ran
      first b q =
          let f = new_job now b q in
          let v = admitted h.lead.0 0 h.lead.1 in
          (h.lead.0, omega (arith, f.0, v.here), subst (λ x. BusyWindow p i h.lead.0 now (put xs n (released now)) x) (sym f.1) v)

  release_keeps : (st : State) (n : ℕ) → Inv p i st.now st.tasks → Inv p i (step p st (release n)).now (step p st (release n)).tasks
  unfolding step released may_release
  release_keeps st n h = go (may_release p st n) refl
    where
      opened : State
      opened = record { now = st.now; tasks = put st.tasks n (released st.now) }

      go : (t : Bool) → may_release p st n ≡ t → Inv p i (cond t opened st).now (cond t opened st).tasks
      go true e =
          let f = and_parts _ _ e in
          release_keeps_if st.now n st.tasks (ltb-true n (size p) f.0) (leb-true _ st.now f.1) h
      go false e = h

  pub step_keeps : (st : State) (e : Event) → Inv p i st.now st.tasks → Inv p i (step p st e).now (step p st e).tasks
  step_keeps st tick h = tick_keeps st h
  step_keeps st (release n) h = release_keeps st n h
  step_keeps st (end n) h = end_keeps st n h

  pub not_late : ((s : ℕ) → Passes p i s) → (st : State) → Inv p i st.now st.tasks → late p st i ≡ false
  unfolding late overdue
  not_late passes st h = go (after_work p st i).job refl
    where
      after : Inv p i (st.now + 1) (after_work p st)
      after = work_keeps p ok i il st h

      go : (o : Option Job) → (after_work p st i).job ≡ o → overdue (D p i) (st.now + 1) o ≡ false
      go None e = refl
      go (Some b) e =
          let v = after.own b e in
          let t = passes v.0 in
          lt-leb _ _ (omega (arith, v.1, v.2.here, v.2.short t.0 t.3, t.2))
