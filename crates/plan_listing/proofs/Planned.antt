-- What the planner's caller holds after a plan: the windows at the head of its list.
use Rattle.std.proofs.Common.{◌≡◌, ℕ, ◌≤◌, List, length, take, drop, sym, ap, ◌∙◌, arith}
use Rattle.std.proofs.lemmas.List.{length-append, take_at}
use Rattle.model.specs.declared.window.Window.{Window}
use Rattle.model.specs.Answers.{Answer, granted, refused}
use Rattle.model.specs.Planning.{written}
use Rattle.model.proofs.Timetables.{refuses}
use Rattle.planner.specs.Plans.{counted, list_after}

pub record Planned (a : Answer (List Window)) (count : ℕ) (list : List Window) : Type 0 where
  pub within : count ≤ length list
  pub are : a ≡ granted (take count list)

pub planned_list : (a : Answer (List Window)) (count : ℕ) (old new : List Window) → granted count ≡ counted a → new ≡ list_after a old → Planned a count new
unfolding written
planned_list (granted ws) count old new e h =
    let size : count ≡ length ws = cc in
    record {
      within = omega (arith, ap length h, length-append ws (drop (length ws) old));
      are = ap granted (sym (ap (take count) h ∙ take_at ws (drop (length ws) old) count (sym size)));
    }
planned_list (refused n vs) count old new e h = absurd (refuses n vs count (sym e))
