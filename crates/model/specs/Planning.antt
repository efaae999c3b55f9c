-- Shortest windows: the least share of the frame with which a partition's tasks are in time, and the plan made of them.
use Rattle.std.specs.Prelude.{ℕ, ◌+◌, ◌%◌, ◌<◌, ◌≤◌, Bool, cond, List, [], ◌∷◌, ◌++◌, length, drop, Some, None, sum, Option, ◌==◌, nat_le, nat_lt}
use Rattle.model.specs.declared.task.Task.{Task}
use Rattle.model.specs.declared.window.Window.{Window}
use Rattle.model.specs.Modules.{Module}
use Rattle.model.specs.Answers.{Answer, granted, refused, and_then}
use Rattle.model.specs.WindowLists.{frame_answer}
use Rattle.model.specs.Orders.{Order}
use Rattle.model.specs.InTime.{Partition, partition_of, InTime, all_in_time}
use Rattle.model.specs.Ranges.{least_below}

-- the ticks at places 0 to q - 1 of a frame of f ticks
abbrev pub first_places : ℕ → ℕ → ℕ → Bool
first_places f q u = nat_lt (u % f) q

-- partition p with the tasks ks, when it owns places 0 to q - 1 of a frame of f ticks and no others
abbrev pub with_first : Order → ℕ → List Task → ℕ → ℕ → Partition
with_first order p ks f q = partition_of order p ks (first_places f q)

-- with the first q places every task is in time
abbrev pub Enough : Order → ℕ → List Task → ℕ → ℕ → Type 0
Enough order p ks f q = (i : ℕ) → i < length ks → InTime (with_first order p ks f q) f i

-- the smallest number of first places that is enough, of at most f
unfoldable pub least_q : Order → ℕ → List Task → ℕ → Option ℕ
least_q order p ks f = least_below (λ q. all_in_time (with_first order p ks f q) f) (f + 1)

-- q is that number
pub record LeastQ (order : Order) (p : ℕ) (ks : List Task) (f q : ℕ) : Type 0 where
  pub fits : q ≤ f
  pub enough : Enough order p ks f q
  pub least : (r : ℕ) → r < q → Enough order p ks f r → ⊥

-- the q of partition p before those of the partitions after it; 61 names the partition that no q up to f will do for
unfoldable pub with_q : ℕ → Option ℕ → Answer (List ℕ) → Answer (List ℕ)
with_q p None others = refused 61 (p ∷ [])
with_q p (Some q) (granted qs) = granted (q ∷ qs)
with_q p (Some q) (refused n vs) = refused n vs

-- the least q of partition p and of those after it
unfoldable pub least_qs : Order → ℕ → ℕ → Module → Answer (List ℕ)
least_qs order f p [] = granted []
least_qs order f p (ks ∷ m) = with_q p (least_q order p ks f) (least_qs order f (p + 1) m)

-- windows of these lengths, partition p first, end to end from place x, leaving out length 0
unfoldable pub end_to_end : ℕ → ℕ → List ℕ → List Window
end_to_end p x [] = []
end_to_end p x (q ∷ qs) =
    cond (q == 0) (end_to_end (p + 1) x qs) (record { partition = p; start = x; length = q } ∷ end_to_end (p + 1) (x + q) qs)

-- the windows, unless they are too long for the frame
unfoldable pub windows_for : ℕ → Answer (List ℕ) → Answer (List Window)
windows_for f (granted qs) = cond (nat_le (sum qs) f) (granted (end_to_end 0 0 qs)) (refused 62 [])
windows_for f (refused n vs) = refused n vs

-- a list for windows has at least 8 places
abbrev pub room_answer : ℕ → Answer (Unit {0})
room_answer n = cond (nat_le 8 n) (granted tt) (refused 63 [])

-- the planner's answer for a module, a frame of f ticks and a list of n places: the windows that it writes
unfoldable pub plan : Order → Module → ℕ → ℕ → Answer (List Window)
plan order m f n = and_then (frame_answer f) (and_then (room_answer n) (windows_for f (least_qs order f 0 m)))

-- the list that the windows were written to: later windows are unchanged
unfoldable pub written : List Window → List Window → List Window
written ws old = ws ++ drop (length ws) old
