-- Window lists: which are allowed in a frame of f ticks, and by which refusal the others are turned away.
use Rattle.std.specs.Prelude.{ℕ, ◌+◌, Bool, cond, ◌&&◌, List, [], ◌∷◌, length, Some, None, Option, nat_le}
use Rattle.model.specs.Answers.{Answer, granted, refused, and_then}
use Rattle.model.specs.declared.window.Window.{Window}

-- the frame has 1 to 1024 ticks
abbrev pub frame_answer : ℕ → Answer (Unit {0})
frame_answer f = cond (nat_le 1 f && nat_le f 1024) (granted tt) (refused 51 [])

-- a list has at most 64 windows
abbrev pub count_answer : ℕ → Answer (Unit {0})
count_answer n = cond (nat_le n 64) (granted tt) (refused 52 [])

-- the first place after the window
abbrev pub end_of : Window → ℕ
end_of w = w.start + w.length

-- the window has a place, belongs to a partition 0 to 7, and ends within the frame
abbrev pub in_frame : ℕ → Window → Bool
in_frame f w = nat_le 1 w.length && (nat_le w.partition 7 && nat_le (end_of w) f)

-- What a list forbids of two windows that follow one another: the number of the refusal, if there is one.
abbrev pub Neighbours : Type 0
Neighbours = Window → Window → Option ℕ

-- the later window begins before the earlier one ends
abbrev pub overlap : Neighbours
overlap v w = cond (nat_le (end_of v) w.start) None (Some 54)

-- the same of a window and the one before it, if there is one
abbrev pub against : Neighbours → Option Window → Window → Option ℕ
against rule None w = None
against rule (Some v) w = rule v w

-- a refusal that names window i
abbrev pub naming : ℕ → Option ℕ → Answer (Unit {0})
naming i None = granted tt
naming i (Some n) = refused n (i ∷ [])

-- window i of a list, after the window v
abbrev pub window_answer : Neighbours → ℕ → ℕ → Option Window → Window → Answer (Unit {0})
window_answer rule f i v w = cond (in_frame f w) (naming i (against rule v w)) (refused 53 (i ∷ []))

-- the windows of a list from window i on, after the window v
abbrev pub windows_answer : Neighbours → ℕ → ℕ → Option Window → List Window → Answer (Unit {0})
windows_answer rule f i v [] = granted tt
windows_answer rule f i v (w ∷ ws) = and_then (window_answer rule f i v w) (windows_answer rule f (i + 1) (Some w) ws)

-- the whole list: the frame, the number of windows, then window by window
abbrev pub list_answer : Neighbours → ℕ → List Window → Answer (Unit {0})
list_answer rule f ws = and_then (frame_answer f) (and_then (count_answer (length ws)) (windows_answer rule f 0 None ws))
