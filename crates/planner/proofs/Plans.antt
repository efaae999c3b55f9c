-- The plan by its cases, in the order of checking, and what a granted one leaves in the list.
use Rattle.std.proofs.Common.{◌≡◌, ℕ, ◌<◌, ◌≤◌, Bool, true, false, cond, ◌&&◌, leb, List, [], length, take, drop, is_ok, Ok, Err, sum, Result, sym, refl, ap, ◌∙◌, subst}
use Rattle.std.proofs.lemmas.List.{take_at}
use Rattle.std.proofs.lemmas.Bool.{cond-false, cond-true, le-leb, lt-leb}
use Rattle.model.specs.declared.window.Window.{Window}
use Rattle.model.specs.Answers.{Answer, and_then, granted, refused}
use Rattle.model.specs.Modules.{Module, module_within}
use Rattle.model.specs.Orders.{Order}
use Rattle.model.specs.Planning.{end_to_end, least_qs, plan, room_answer, windows_for, written}
use Rattle.model.specs.WindowLists.{frame_answer}
use Rattle.model.proofs.Plans.{plans_clear}
use Rattle.model.proofs.Timetables.{refuses}
use Rattle.windows.specs.Refusals as lists
use Rattle.windows.specs.declared.refusal.WindowRefusal.{WindowRefusal}
use Rattle.planner.specs.declared.refusal.PlanRefusal.{PlanRefusal}
use Rattle.planner.specs.Plans.{Clears, counted, list_after}

-- what the check of the frame says, its refusal made the planner's
module _ (f : ℕ) (r : Result (Unit {0}) WindowRefusal) (s : Result (Unit {0}) PlanRefusal) (same : is_ok s ≡ is_ok r) (checked : lists.told r ≡ frame_answer f) where
  good_told : (q : Result (Unit {0}) WindowRefusal) → true ≡ is_ok q → lists.told q ≡ frame_answer f → frame_answer f ≡ granted tt
  good_told (Ok x) e h = sym h
  good_told (Err x) e h = absurd (cc)

  refused_told : (q : Result (Unit {0}) WindowRefusal) (b : Bool) → false ≡ is_ok q → lists.told q ≡ cond b (granted tt) (refused 51 []) → ◌≡◌ {A = Answer (Unit {0})} (cond b (granted tt) (refused 51 [])) (refused 51 [])
  refused_told q false e h = refl
  refused_told (Ok x) true e h = absurd (cc)
  refused_told (Err x) true e h = absurd (refuses (lists.number x) (lists.values x) tt h)

  pub frame_good : (x : Unit {0}) → s ≡ Ok x → frame_answer f ≡ granted tt
  frame_good x e = good_told r (sym (ap is_ok e) ∙ same) checked

  pub frame_refused : (x : PlanRefusal) → s ≡ Err x → frame_answer f ≡ refused 51 []
  frame_refused x e = refused_told r (leb 1 f && leb f 1024) (sym (ap is_ok e) ∙ same) checked

-- The plan, where the check of the frame has answered.
module _ (order : Order) (m : Module) (f n : ℕ) where
  abbrev after_frame : Answer (List Window)
  after_frame = and_then (room_answer n) (windows_for f (least_qs order f 0 m))

  pub plan_unframed : frame_answer f ≡ refused 51 [] → plan order m f n ≡ refused 51 []
  unfolding plan
  plan_unframed e = ap (λ a. and_then a after_frame) e

  module _ (good : frame_answer f ≡ granted tt) where
    plan_framed : plan order m f n ≡ after_frame
    unfolding plan
    plan_framed = ap (λ a. and_then a after_frame) good

    pub plan_short : n < 8 → plan order m f n ≡ refused 63 []
    plan_short l = plan_framed ∙ ap (λ a. and_then a (windows_for f (least_qs order f 0 m))) (cond-false (leb 8 n) (granted tt) (refused 63 []) (lt-leb 8 n l))

    module _ (room : 8 ≤ n) where
      plan_roomy : plan order m f n ≡ windows_for f (least_qs order f 0 m)
      plan_roomy = plan_framed ∙ ap (λ a. and_then a (windows_for f (least_qs order f 0 m))) (cond-true (leb 8 n) (granted tt) (refused 63 []) (le-leb 8 n room))

      pub plan_infeasible : (k : ℕ) (vs : List ℕ) → least_qs order f 0 m ≡ refused k vs → plan order m f n ≡ refused k vs
      unfolding windows_for
      plan_infeasible k vs e = plan_roomy ∙ ap (windows_for f) e

      module _ (qs : List ℕ) (are : least_qs order f 0 m ≡ granted qs) where
        pub plan_exceeds : false ≡ leb (sum qs) f → plan order m f n ≡ refused 62 []
        unfolding windows_for
        plan_exceeds e = plan_roomy ∙ (ap (windows_for f) are ∙ cond-false (leb (sum qs) f) (granted (end_to_end 0 0 qs)) (refused 62 []) (sym e))

        pub plan_granted : true ≡ leb (sum qs) f → plan order m f n ≡ granted (end_to_end 0 0 qs)
        unfolding windows_for
        plan_granted e = plan_roomy ∙ (ap (windows_for f) are ∙ cond-true (leb (sum qs) f) (granted (end_to_end 0 0 qs)) (refused 62 []) (sym e))

-- What the promise comes to in each case.

-- a refusal: its number and values are the answer, and the list is as it was
abbrev RefusedAs : Answer (List Window) → List Window → ℕ → List ℕ → Type 0
RefusedAs a ws k vs = record { answer : refused k vs ≡ counted a; after : ws ≡ list_after a ws; clears : Unit {0} }

pub refused_as : (a : Answer (List Window)) (ws : List Window) (k : ℕ) (vs : List ℕ) → a ≡ refused k vs → RefusedAs a ws k vs
refused_as a ws k vs e = record { answer = sym (ap counted e); after = sym (ap (λ b. list_after b ws) e); clears = tt }

-- a plan: the answer is how many windows there are, and those at the head of the list clear the module
abbrev GrantedAs : Order → Module → ℕ → ℕ → List Window → List Window → ℕ → Type 0
GrantedAs order m f n old new count = record {
  answer : granted count ≡ counted (plan order m f n);
  after : new ≡ list_after (plan order m f n) old;
  clears : Clears order m f (take count new);
}

pub granted_as : (order : Order) (m : Module) (f n : ℕ) (ws old new : List Window) (count : ℕ) → module_within m ≡ true → plan order m f n ≡ granted ws →
    count ≡ length ws → new ≡ written ws old → GrantedAs order m f n old new count
unfolding written
granted_as order m f n ws old new count within e size is =
    let same : take count new ≡ ws = ap (take count) is ∙ take_at ws (drop (length ws) old) count (sym size) in
    let P : List Window → Type 0 = λ us. Clears order m f us in
    record {
      answer = ap granted size ∙ sym (ap counted e);
      after = is ∙ sym (ap (λ a. list_after a old) e);
      clears = subst P (sym same) (plans_clear order m f n ws within e);
    }
