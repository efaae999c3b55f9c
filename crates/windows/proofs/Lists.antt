-- How one window decides for a list: for tapes, which check window by window.
use Rattle.std.proofs.Common.{◌≡◌, ℕ, ◌+◌, List, [], ◌∷◌, ◌++◌, length, Some, None, Option, refl, add-zero, arith}
use Rattle.model.specs.Answers.{Answer, granted, refused, and_then}
use Rattle.model.specs.declared.window.Window.{Window}
use Rattle.model.specs.WindowLists.{Neighbours, frame_answer, count_answer, window_answer, windows_answer, list_answer}

-- a frame and a number of windows that are granted leave the windows to decide
pub list_by_windows : (rule : Neighbours) (f : ℕ) (ws : List Window) → granted tt ≡ frame_answer f → granted tt ≡ count_answer (length ws) → list_answer rule f ws ≡ windows_answer rule f 0 None ws
list_by_windows rule f ws h k = rw (← h, ← k)

-- both of two calls are granted where the second is, after the first
pub both_granted : {A B : Type 0} (a : Answer A) (b : Answer B) (v : B) → and_then a b ≡ granted v → ((u : A) × (a ≡ granted u)) × (b ≡ granted v)
both_granted (granted u) b v e = ((u, refl), e)
both_granted (refused n vs) b v e = absurd (cc)

-- the last window of a list, or the one before it
abbrev pub last_or : Option Window → List Window → Option Window
last_or v [] = v
last_or v (w ∷ ws) = last_or (Some w) ws

-- a window that is granted after a list that is granted makes a longer one
pub windows_one_more : (rule : Neighbours) (f i : ℕ) (v : Option Window) (ws : List Window) (w : Window) → windows_answer rule f i v ws ≡ granted tt → window_answer rule f (i + length ws) (last_or v ws) w ≡ granted tt → windows_answer rule f i v (ws ++ (w ∷ [])) ≡ granted tt
windows_one_more rule f i v [] w e h = rw (rw add-zero at h)
windows_one_more rule f i v (u ∷ ws) w e h =
    let both = both_granted (window_answer rule f i v u) (windows_answer rule f (i + 1) (Some u) ws) tt e in
    let k : i + length (u ∷ ws) ≡ i + 1 + length ws = omega arith in
    rw both.0.1 (windows_one_more rule f (i + 1) (Some u) ws w both.1 (rw (← k) h))
