-- Where a task does not pass, a run has a late job.
use Rattle.std.proofs.Common.{◌≡◌, ℕ, zero, suc, ◌+◌, ◌*◌, ◌<◌, ◌≤◌, Bool, true, false, cond, ◌||◌, eqb, leb, ◌⊎◌, List, [], ◌∷◌, ◌++◌, is_some, Some, None, Option, sym, refl, ap, ◌∙◌, subst, inl, inr, add-one, arith}
use Rattle.std.proofs.lemmas.Bool.{and_from, and_right, both_ways, cases_Bool, cases_eq, cases_lt, cond-false, cond-true, eq-eqb, eqb-true, le-leb, leb-false, lt-leb, lt-ltb, or_cases, or_left, or_right}
use Rattle.model.specs.declared.job.Job.{Job}
use Rattle.model.specs.declared.job.TaskState.{TaskState}
use Rattle.model.specs.InTime.{C, D, Partition, Passes, T, ceil, size, sum_before, supply}
use Rattle.model.specs.Machine.{closed, one_on, overdue, put, ready, released}
use Rattle.model.proofs.Firsts.{First}
use Rattle.model.proofs.OnePartition.{Event, InTimeIsNeeded, Proper, State, after_work, fresh, is_open, late, may_release, release, run, runner, step, tick}
use Rattle.model.proofs.Ranges.{find_below}
use Rattle.model.proofs.Sums.{at, at_other, at_same, before_le, before_more, before_zero, ceil_is}
use Rattle.model.proofs.Supplies.{demand_is, supply_more, supply_none}
use Rattle.model.proofs.Turns.{Turn, Unspent, all_closed, job_of, new_job, new_owed, new_ready, not_owned, one_less, owed, owed_closed, put_other, put_same, rests_none, rests_other, runs, same_last, same_release, turn, unspent_after, was_open, works}

pub run_append : (p : Partition) (st : State) (es fs : List Event) → run p st (es ++ fs) ≡ run p (run p st es) fs
unfolding run
run_append p st [] fs = refl
run_append p st (e ∷ es) fs = run_append p (step p st e) es fs

-- task i and those before it
wanted : Partition → ℕ → ℕ → Bool
wanted p i j = p.before j i || eqb j i

-- release what is wanted of the tasks below m
calls : Partition → ℕ → ℕ → List Event
calls p i zero = []
calls p i (suc m) = cond (wanted p i m) (release m ∷ calls p i m) (calls p i m)

-- as soon as it may be, through u ticks
script : Partition → ℕ → ℕ → List Event
script p i zero = calls p i (size p)
script p i (suc u) = script p i u ++ (tick ∷ calls p i (size p))

script_more : (p : Partition) (i u : ℕ) (st : State) → run p st (script p i (suc u)) ≡ run p (step p (run p st (script p i u)) tick) (calls p i (size p))
unfolding script run
script_more p i u st = run_append p st (script p i u) (tick ∷ calls p i (size p))

-- one call
module _ (p : Partition) (st : State) (n : ℕ) where
  call_now : (step p st (release n)).now ≡ st.now
  unfolding step
  call_now = elim (may_release p st n) as (λ b. (cond b (record { now = st.now; tasks = put st.tasks n (released st.now) }) st).now ≡ st.now) [ true ↦ refl | false ↦ refl ]

  call_other : (j : ℕ) → (j ≡ n → ⊥) → (step p st (release n)).tasks j ≡ st.tasks j
  unfolding step
  call_other j d = elim (may_release p st n) as (λ b. (cond b (record { now = st.now; tasks = put st.tasks n (released st.now) }) st).tasks j ≡ st.tasks j) [ true ↦ put_other st.tasks n _ j d | false ↦ refl ]

  call_free : n < size p → ready (T p n) (st.tasks n).last ≤ st.now → (step p st (release n)).tasks n ≡ released st.now
  unfolding step may_release released
  call_free l h = ap (λ (x : State). x.tasks n) (cond-true _ _ st (and_from _ _ (lt-ltb n (size p) l) (le-leb _ st.now h))) ∙ put_same st.tasks n _

  call_refused : st.now < ready (T p n) (st.tasks n).last → (step p st (release n)).tasks n ≡ st.tasks n
  unfolding step may_release
  call_refused h = ap (λ (x : State). x.tasks n) (cond-false _ _ st (and_right _ _ (lt-leb _ st.now h)))

module _ (p : Partition) (i : ℕ) where
  calls_now : (m : ℕ) (st : State) → (run p st (calls p i m)).now ≡ st.now
  unfolding calls run
  calls_now zero st = refl
  calls_now (suc m) st = elim (wanted p i m) as (λ b. (run p st (cond b (release m ∷ calls p i m) (calls p i m))).now ≡ st.now) [
    | true ↦ calls_now m (step p st (release m)) ∙ call_now p st m
    | false ↦ calls_now m st
  ]

  -- a task that is not called
  calls_past : (m : ℕ) (st : State) (j : ℕ) → m ≤ j → (run p st (calls p i m)).tasks j ≡ st.tasks j
  unfolding calls run
  calls_past zero st j l = refl
  calls_past (suc m) st j l = elim (wanted p i m) as (λ b. (run p st (cond b (release m ∷ calls p i m) (calls p i m))).tasks j ≡ st.tasks j) [
    | true ↦ calls_past m (step p st (release m)) j (omega arith) ∙ call_other p st m j (λ e. omega arith)
    | false ↦ calls_past m st j (omega arith)
  ]

  calls_unwanted : (m : ℕ) (st : State) (j : ℕ) → wanted p i j ≡ false → (run p st (calls p i m)).tasks j ≡ st.tasks j
  unfolding calls run
  calls_unwanted zero st j w = refl
  calls_unwanted (suc m) st j w = go (wanted p i m) refl (λ x. calls_unwanted m x j w)
    where
      go : (b : Bool) → wanted p i m ≡ b → ((x : State) → (run p x (calls p i m)).tasks j ≡ x.tasks j) → (run p st (cond b (release m ∷ calls p i m) (calls p i m))).tasks j ≡ st.tasks j
      go true e h = h (step p st (release m)) ∙ call_other p st m j (λ z. both_ways _ w (ap (wanted p i) z ∙ e))
      go false e h = h st

  -- a task that is called
  calls_free : (m : ℕ) (st : State) (j : ℕ) → j < m → m ≤ size p → wanted p i j ≡ true → ready (T p j) (st.tasks j).last ≤ st.now →
      (run p st (calls p i m)).tasks j ≡ released st.now
  unfolding calls run
  calls_free zero st j l s w h = absurd (omega arith)
  calls_free (suc m) st j l s w h = go (wanted p i m) refl (λ x b c. calls_free m x j b (omega arith) w c)
    where
      go : (b : Bool) → wanted p i m ≡ b →
          ((x : State) → j < m → ready (T p j) (x.tasks j).last ≤ x.now → (run p x (calls p i m)).tasks j ≡ released x.now) →
          (run p st (cond b (release m ∷ calls p i m) (calls p i m))).tasks j ≡ released st.now
      go true e ih = elim (cases_eq j m) [
        | inl z ↦ calls_past m (step p st (release m)) j (omega arith) ∙ ap (step p st (release m)).tasks z ∙ call_free p st m s (subst (λ x. ready (T p x) (st.tasks x).last ≤ st.now) z h)
        | inr z ↦ ih (step p st (release m)) (omega arith) (rw (call_other p st m j z, call_now p st m) h) ∙ ap released (call_now p st m)
      ]
      go false e ih = elim (cases_eq j m) [
        | inl z ↦ absurd (both_ways _ e (ap (wanted p i) (sym z) ∙ w))
        | inr z ↦ ih st (omega arith) h
      ]

  calls_refused : (m : ℕ) (st : State) (j : ℕ) → st.now < ready (T p j) (st.tasks j).last → (run p st (calls p i m)).tasks j ≡ st.tasks j
  unfolding calls run
  calls_refused zero st j h = refl
  calls_refused (suc m) st j h = elim (wanted p i m) as (λ b. (run p st (cond b (release m ∷ calls p i m) (calls p i m))).tasks j ≡ st.tasks j) [
    | true ↦ calls_refused m (step p st (release m)) j (rw (same, call_now p st m) h) ∙ same
    | false ↦ calls_refused m st j h
  ]
    where
      same : (step p st (release m)).tasks j ≡ st.tasks j
      same = elim (cases_eq j m) [
        | inl z ↦ ap (step p st (release m)).tasks z ∙ call_refused p st m (subst (λ x. st.now < ready (T p x) (st.tasks x).last) z h) ∙ ap st.tasks (sym z)
        | inr z ↦ call_other p st m j z
      ]

pub not_over : (p : Partition) (st : State) (j : ℕ) (b : Job) → (after_work p st j).job ≡ Some b → late p st j ≡ false → st.now + 1 < b.released + D p j
unfolding late overdue
not_over p st j b g n = leb-false _ _ (ap (overdue (D p j) (st.now + 1)) (sym g) ∙ n)

pub late_open : (p : Partition) (st : State) (j : ℕ) → late p st j ≡ true → is_some (after_work p st j).job ≡ true
unfolding late overdue
late_open p st j = go (after_work p st j).job
  where
    go : (o : Option Job) → overdue (D p j) (st.now + 1) o ≡ true → is_some o ≡ true
    go None h = h
    go (Some b) h = refl

-- At offset u of the script no job was late, and each owned tick went to task i or to one before it.
-- Before the calls of that tick z is 0, and after them it is 1.
record Busy (p : Partition) (i s z u now : ℕ) (xs : ℕ → TaskState) : Type 0 where
  e : ℕ → ℕ
  k : ℕ → ℕ
  mine : Job
  now_is : now ≡ s + u
  soon : u < D p i
  unspent : (j : ℕ) → j < size p → Unspent (C p j) (xs j).job
  others : (j : ℕ) → j < size p → is_some (xs j).job ≡ true → wanted p i j ≡ true
  jobs : (j : ℕ) → j < size p → (b : Job) → (xs j).job ≡ Some b → (now < b.released + D p j) × (b.released + T p j ≡ ready (T p j) (xs j).last)
  did : (j : ℕ) → j < size p → p.before j i ≡ true → e j + owed (C p j) (xs j).job ≡ C p j * k j
  next : (j : ℕ) → j < size p → p.before j i ≡ true → ready (T p j) (xs j).last ≡ s + k j * T p j
  since : (j : ℕ) → j < size p → p.before j i ≡ true → (u + z ≤ k j * T p j) × (k j * T p j ≤ u + T p j)
  mine_is : (xs i).job ≡ Some mine
  mine_from : mine.released ≡ s
  used : sum_before p i e + mine.ran ≡ supply p s u

module _ (p : Partition) (ok : Proper p) (i : ℕ) (il : i < size p) (s : ℕ) (stuck : Passes p i s → ⊥) where
  want_self : wanted p i i ≡ true
  unfolding wanted
  want_self = or_right _ _ (eq-eqb i i refl)

  want_before : (j : ℕ) → p.before j i ≡ true → wanted p i j ≡ true
  unfolding wanted
  want_before j b = or_left _ _ b

  whose : (j : ℕ) → wanted p i j ≡ true → (j ≡ i) ⊎ (p.before j i ≡ true)
  unfolding wanted
  whose j w = elim (or_cases _ _ w) [ inl b ↦ inr b | inr b ↦ inl (eqb-true j i b) ]

  busy_start : (st : State) → st ≡ run p (fresh s) (calls p i (size p)) → Busy p i s 1 0 st.now st.tasks
  unfolding ready released
  busy_start st q = record {
    e = λ _. 0;
    k = λ _. 1;
    mine = record { released = s; ran = 0 };
    now_is = omega (arith, now_start);
    soon = omega (arith, ok.costs i il);
    unspent = λ j l b g. elim (cases_Bool (wanted p i j)) [
      | inl w ↦ omega (arith, (new_job s b (ap job_of (sym (new j l w)) ∙ g)).1, ok.costs j l)
      | inr w ↦ cc (sym (old j w) ∙ g)
    ];
    others = λ j l g. elim (cases_Bool (wanted p i j)) [ inl w ↦ w | inr w ↦ absurd (both_ways _ (ap is_some (old j w)) g) ];
    did = λ j l b. rw (new j l (want_before j b)) (omega (arith, new_owed (C p j) s));
    next = λ j l b. rw (new j l (want_before j b)) (omega (arith, new_ready (T p j) s));
    since = λ j l b. omega (arith, ok.costs j l);
    mine_is = ap job_of (new i il want_self);
    mine_from = refl;
    jobs = λ j l b g. elim (cases_Bool (wanted p i j)) [
      | inl w ↦
          let f = new_job s b (ap job_of (sym (new j l w)) ∙ g) in
          let n : ready (T p j) (st.tasks j).last ≡ s + T p j = rw (new j l w) (new_ready (T p j) s) in
          let c = ok.costs j l in
          let t = now_start in
          (omega arith, omega arith)
      | inr w ↦ cc (sym (old j w) ∙ g)
    ];
    used = omega (arith, before_zero p i, supply_none p s);
  }
    where
      new : (j : ℕ) → j < size p → wanted p i j ≡ true → st.tasks j ≡ released s
      new j l w = ap (λ (x : State). x.tasks j) q ∙ calls_free p i (size p) (fresh s) j l (omega arith) w (omega arith)

      now_start : st.now ≡ s
      now_start = ap (λ (x : State). x.now) q ∙ calls_now p i (size p) (fresh s)

      old : (j : ℕ) → wanted p i j ≡ false → (st.tasks j).job ≡ None
      old j w = ap (λ (x : State). (x.tasks j).job) q ∙ ap job_of (calls_unwanted p i (size p) (fresh s) j w)

  -- one tick of work at offset u
  record Ticked (u : ℕ) (k : ℕ → ℕ) (ys : ℕ → TaskState) : Type 0 where
    e : ℕ → ℕ
    mine : Job
    did : (j : ℕ) → j < size p → p.before j i ≡ true → e j + owed (C p j) (ys j).job ≡ C p j * k j
    mine_is : (ys i).job ≡ Some mine
    mine_from : mine.released ≡ s
    used : sum_before p i e + mine.ran ≡ supply p s (u + 1)

  module _ (u : ℕ) (st : State) (h : Busy p i s 1 u st.now st.tasks) where
    not_i : (j : ℕ) → p.before j i ≡ true → j ≡ i → ⊥
    not_i j b z = both_ways _ (ok.irreflexive i) (ap (λ x. p.before x i) (sym z) ∙ b)

    supplied : (b : Bool) → p.owns st.now ≡ b → supply p s (u + 1) ≡ supply p s u + cond b 1 0
    supplied b o = supply_more p s u ∙ ap {B = ℕ} (λ x. supply p s u + cond x 1 0) (ap p.owns (sym h.now_is) ∙ o)

    ticked_idle : p.owns st.now ≡ false → runner p st ≡ None → Ticked u h.k (after_work p st)
    ticked_idle o r = record {
      e = h.e;
      mine = h.mine;
      did = λ j l b. rw (rests_none p st j r) (h.did j l b);
      mine_is = ap job_of (rests_none p st i r) ∙ h.mine_is;
      mine_from = h.mine_from;
      used = omega (arith, h.used, supplied false o);
    }

    ticked_before : (k : ℕ) → p.owns st.now ≡ true → runner p st ≡ Some k → k < size p → is_some (st.tasks k).job ≡ true → p.before k i ≡ true → Ticked u h.k (after_work p st)
    ticked_before k o r kl ko kb = record {
      e = λ j. h.e j + at k j;
      mine = h.mine;
      did = λ j l b. elim (cases_eq j k) [
        | inl z ↦ rw (works p st j k r z) (omega (arith, h.did j l b, one_less (C p j) (st.tasks j).job (ap (λ x. is_some (st.tasks x).job) z ∙ ko) (h.unspent j l), ap (at k) z, at_same k))
        | inr z ↦ rw (rests_other p st j k r z, at_other k j z) (omega (arith, h.did j l b))
      ];
      mine_is = ap job_of (rests_other p st i k r (λ z. not_i k kb (sym z))) ∙ h.mine_is;
      mine_from = h.mine_from;
      used = omega (arith, h.used, supplied true o, before_more p i h.e k kl kb);
    }

    -- task i runs only if none before it is open
    alone : First p.before (is_open st.tasks) (size p) i → (j : ℕ) → j < size p → p.before j i ≡ true → is_some (st.tasks j).job ≡ false
    alone f j l b = elim (cases_Bool (is_some (st.tasks j).job)) [
      | inl y ↦ elim (f.least j l y) [
        | inl z ↦ absurd (not_i j b z)
        | inr z ↦ absurd (both_ways _ (ok.irreflexive i) (ok.transitive i j i z b))
      ]
      | inr y ↦ y
    ]

    -- and it would pass if that were its last tick
    not_last : First p.before (is_open st.tasks) (size p) i → p.owns st.now ≡ true → C p i ≤ h.mine.ran + 1 → ⊥
    not_last f o l = stuck (u + 1, omega arith, omega (arith, h.soon), omega (arith, demand_is p i (u + 1), most, supplied true o, h.used))
      where
        most : sum_before p i (λ j. C p j * ceil (u + 1) (T p j)) ≤ sum_before p i h.e
        most = before_le p i _ h.e (λ j m b.
            let c = ok.costs j m in
            let w = h.since j m b in
            let n : ceil (u + 1) (T p j) ≡ h.k j = ceil_is (h.k j) u (T p j) (omega arith) w.1 (omega arith) in
            rw n (omega (arith, h.did j m b, owed_closed (C p j) (st.tasks j).job (alone f j m b))))

    ticked_own : First p.before (is_open st.tasks) (size p) i → p.owns st.now ≡ true → runner p st ≡ Some i → Ticked u h.k (after_work p st)
    unfolding one_on
    ticked_own f o r = record {
      e = h.e;
      mine = record { released = h.mine.released; ran = h.mine.ran + 1 };
      did = λ j l b. rw (rests_other p st j i r (not_i j b)) (h.did j l b);
      mine_is = works p st i i r refl ∙ ap (one_on (C p i)) h.mine_is ∙ cond-false _ _ _ (lt-leb (C p i) (h.mine.ran + 1) (omega (arith, not_last f o)));
      mine_from = h.mine_from;
      used = omega (arith, h.used, supplied true o);
    }

    ticked : Turn p st → Ticked u h.k (after_work p st)
    ticked (not_owned o r) = ticked_idle o r
    ticked (all_closed c r) = absurd (both_ways _ (c i il) (ap is_some h.mine_is))
    ticked (runs k o f r) = elim (f.least i il (ap is_some h.mine_is)) [
      | inl z ↦ ticked_own (subst (First p.before (is_open st.tasks) (size p)) (sym z) f) o (r ∙ ap Some (sym z))
      | inr b ↦ ticked_before k o r f.below f.holds b
    ]

    -- the tick closes no job as late
    busy_tick : ((j : ℕ) → j < size p → late p st j ≡ false) → Busy p i s 0 (suc u) (step p st tick).now (step p st tick).tasks
    unfolding step
    busy_tick none = record {
      e = v.e;
      k = h.k;
      mine = v.mine;
      now_is = omega (arith, h.now_is);
      soon = omega (arith, in_time i il v.mine v.mine_is, v.mine_from, h.now_is);
      unspent = λ j l. rw (same j l) (unspent_after p st j t (h.unspent j l));
      others = λ j l. rw (same j l) (λ g. h.others j l (was_open p st j g));
      jobs = λ j l. rw (same j l) (λ b g.
          let a = same_release p st j t b g in
          let f = h.jobs j l a.0 a.1 in
          let m = in_time j l b g in
          (omega arith, rw (same_last p st j) (omega (arith, f.1, a.2))));
      did = λ j l b. rw (same j l) (v.did j l b);
      next = λ j l b. rw (same j l, same_last p st j) (h.next j l b);
      since = λ j l b. omega (arith, h.since j l b);
      mine_is = rw (same i il) v.mine_is;
      mine_from = v.mine_from;
      used = rw (← (add-one u)) v.used;
    }
      where
        t : Turn p st
        t = turn p ok st

        v : Ticked u h.k (after_work p st)
        v = ticked t

        same : (j : ℕ) → j < size p → cond (late p st j) (closed (after_work p st j)) (after_work p st j) ≡ after_work p st j
        same j l = cond-false _ _ _ (none j l)

        in_time : (j : ℕ) → j < size p → (b : Job) → (after_work p st j).job ≡ Some b → st.now + 1 < b.released + D p j
        in_time j l b g = not_over p st j b g (none j l)

  module _ (u : ℕ) (st : State) (h : Busy p i s 0 u st.now st.tasks) where
    due : ℕ → ℕ
    due j = ready (T p j) (st.tasks j).last

    after : ℕ → TaskState
    after j = (run p st (calls p i (size p))).tasks j

    free : (j : ℕ) → j < size p → wanted p i j ≡ true → due j ≤ st.now → after j ≡ released st.now
    unfolding due after
    free j l w d = calls_free p i (size p) st j l (omega arith) w d

    held : (j : ℕ) → st.now < due j → after j ≡ st.tasks j
    unfolding due after
    held j d = calls_refused p i (size p) st j d

    -- a task that is due has no open job
    done : (j : ℕ) → j < size p → due j ≤ st.now → is_some (st.tasks j).job ≡ false
    unfolding due
    done j l d = go (st.tasks j).job refl
      where
        go : (o : Option Job) → (st.tasks j).job ≡ o → is_some o ≡ false
        go None g = refl
        go (Some b) g = absurd (omega (arith, h.jobs j l b g, ok.costs j l))

    more : ℕ → ℕ
    more j = cond (leb (due j) st.now) 1 0

    more_one : (j : ℕ) → due j ≤ st.now → more j ≡ 1
    unfolding more
    more_one j d = cond-true _ _ _ (le-leb _ _ d)

    more_none : (j : ℕ) → st.now < due j → more j ≡ 0
    unfolding more
    more_none j d = cond-false _ _ _ (lt-leb _ _ d)

    data After (j : ℕ) : Type 0 where
      kept : after j ≡ st.tasks j → After j
      renewed : wanted p i j ≡ true → after j ≡ released st.now → After j

    each : (j : ℕ) → j < size p → After j
    unfolding after
    each j l = elim (cases_Bool (wanted p i j)) [
      | inl w ↦ elim (cases_lt st.now (due j)) [ inl d ↦ kept (held j d) | inr d ↦ renewed w (free j l w d) ]
      | inr w ↦ kept (calls_unwanted p i (size p) st j w)
    ]

    unspent_next : (j : ℕ) → j < size p → After j → Unspent (C p j) (after j).job
    unspent_next j l (kept g) = rw g (h.unspent j l)
    unspent_next j l (renewed w g) = rw g (λ b q. omega (arith, new_job st.now b q, ok.costs j l))

    others_next : (j : ℕ) → j < size p → After j → is_some (after j).job ≡ true → wanted p i j ≡ true
    others_next j l (kept g) = rw g (h.others j l)
    others_next j l (renewed w g) = λ _. w

    jobs_next : (j : ℕ) → j < size p → After j → (b : Job) → (after j).job ≡ Some b → (st.now < b.released + D p j) × (b.released + T p j ≡ ready (T p j) (after j).last)
    jobs_next j l (kept g) = rw g (h.jobs j l)
    jobs_next j l (renewed w g) = rw g (λ b q. let f = new_job st.now b q in let c = ok.costs j l in (omega arith, omega (arith, new_ready (T p j) st.now)))

    module _ (j : ℕ) (l : j < size p) (b : p.before j i ≡ true) where
      did_next : h.e j + owed (C p j) (after j).job ≡ C p j * (h.k j + more j)
      did_next = elim (cases_lt st.now (due j)) [
        | inl d ↦ rw (held j d, more_none j d) (omega (arith, h.did j l b))
        | inr d ↦ rw (free j l (want_before j b) d, more_one j d) (omega (arith, h.did j l b, new_owed (C p j) st.now, owed_closed (C p j) (st.tasks j).job (done j l d)))
      ]

      next_next : ready (T p j) (after j).last ≡ s + (h.k j + more j) * T p j
      unfolding due
      next_next = elim (cases_lt st.now (due j)) [
        | inl d ↦ rw (held j d, more_none j d) (omega (arith, h.next j l b))
        | inr d ↦ rw (free j l (want_before j b) d, more_one j d) (omega (arith, h.next j l b, h.now_is, h.since j l b, new_ready (T p j) st.now))
      ]

      since_next : (u + 1 ≤ (h.k j + more j) * T p j) × ((h.k j + more j) * T p j ≤ u + T p j)
      unfolding due
      since_next = elim (cases_lt st.now (due j)) [
        | inl d ↦ rw (more_none j d) (omega (arith, h.next j l b, h.now_is, h.since j l b))
        | inr d ↦ rw (more_one j d) (omega (arith, h.next j l b, h.now_is, h.since j l b, ok.costs j l))
      ]

    mine_held : st.now < due i
    unfolding due
    mine_held = omega (arith, h.jobs i il h.mine h.mine_is, ok.costs i il)

    busy_calls : Busy p i s 1 u (run p st (calls p i (size p))).now (run p st (calls p i (size p))).tasks
    unfolding after
    busy_calls = rw (calls_now p i (size p) st) (record {
      e = h.e;
      k = λ j. h.k j + more j;
      mine = h.mine;
      now_is = h.now_is;
      soon = h.soon;
      unspent = λ j l. unspent_next j l (each j l);
      others = λ j l. others_next j l (each j l);
      jobs = λ j l. jobs_next j l (each j l);
      did = did_next;
      next = next_next;
      since = since_next;
      mine_is = ap job_of (held i mine_held) ∙ h.mine_is;
      mine_from = h.mine_from;
      used = h.used;
    })

  soon_now : (u : ℕ) (st : State) → Busy p i s 1 u st.now st.tasks → st.now < s + D p i
  soon_now u st h = omega (arith, h.soon, h.now_is)

  find : (m u : ℕ) → D p i ≤ u + m → (st : State) → st ≡ run p (fresh s) (script p i u) → Busy p i s 1 u st.now st.tasks →
      (es : List Event) × (j : ℕ) × (j < size p) × ((j ≡ i) ⊎ (p.before j i ≡ true)) × (late p (run p (fresh s) es) j ≡ true) × ((run p (fresh s) es).now < s + D p i)
  find zero u l st q h = absurd (omega (arith, h.soon))
  find (suc m) u l st q h = elim (find_below (size p) _ _ (λ j. cases_Bool (late p st j))) [
    | inl y ↦ (script p i u, y.0, y.1, whose y.0 (h.others y.0 y.1 (was_open p st y.0 (late_open p st y.0 y.2))), rw q at y.2, rw q at (soon_now u st h))
    | inr none ↦
        find m (suc u) (omega arith) (run p (step p st tick) (calls p i (size p)))
        (ap (λ x. run p (step p x tick) (calls p i (size p))) q ∙ sym (script_more p i u (fresh s)))
        (busy_calls (suc u) (step p st tick) (busy_tick u st h none))
  ]

pub needed : InTimeIsNeeded
unfolding script
needed p i s ok il stuck = find p ok i il s stuck (D p i) 0 (omega arith) (run p (fresh s) (calls p i (size p))) refl (busy_start p ok i il s stuck (run p (fresh s) (calls p i (size p))) refl)
