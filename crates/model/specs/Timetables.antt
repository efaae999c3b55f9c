-- Timetables by their meaning: a frame that comes round and round, and who owns each of its places.
use Rattle.std.specs.Prelude.{◌≡◌, ℕ, ◌+◌, ◌-◌, ◌%◌, ◌<◌, ◌≤◌, Bool, true, false, cond, ◌&&◌, List, [], ◌∷◌, ◌++◌, length, Some, None, sum, Option, ◌==◌, ◌≢◌, nat_le, nat_lt}
use Rattle.model.specs.declared.window.Window.{Window}
use Rattle.model.specs.Answers.{Answer, granted, refused, and_then}
use Rattle.model.specs.WindowLists.{Neighbours, overlap, end_of, frame_answer, list_answer}

-- A timetable: how many places its frame has, and the partition that owns each place, if one does.
pub record Timetable : Type 0 where
  pub frame : ℕ
  pub owner : ℕ → Option ℕ

-- The frame has 1 to 1024 places, and an owner is a partition 0 to 7.
pub record LawfulTimetable (t : Timetable) : Type 0 where
  pub frame_within : (1 ≤ t.frame) × (t.frame ≤ 1024)
  pub owners_within : (x p : ℕ) → x < t.frame → t.owner x ≡ Some p → p < 8

-- who owns the tick u: the owner of place u mod F
unfoldable pub owner_at : Timetable → ℕ → Option ℕ
owner_at t u = t.owner (u % t.frame)

-- whether that is partition p
unfoldable pub owned_by : ℕ → Option ℕ → Bool
owned_by p None = false
owned_by p (Some q) = p == q

-- The bare frame: one place, nobody's.
abbrev pub bare_frame : Timetable
bare_frame = record { frame = 1; owner = λ _. None }

-- What a window list or a share cycle means once it is opened: the bare frame, if its check refuses it.
unfoldable pub opened : Answer (Unit {0}) → Timetable → Timetable
opened (granted u) t = t
opened (refused n vs) t = bare_frame

-- the window covers the place x
abbrev pub covers : Window → ℕ → Bool
covers w x = nat_le w.start x && nat_lt x (end_of w)

-- a place belongs to the window that covers it, else to nobody
unfoldable pub window_owner : List Window → ℕ → Option ℕ
window_owner [] x = None
window_owner (w ∷ ws) x = cond (covers w x) (Some w.partition) (window_owner ws x)

-- an opened list of windows in a frame of f ticks
abbrev pub window_timetable : Neighbours → ℕ → List Window → Timetable
window_timetable rule f ws = opened (list_answer rule f ws) (record { frame = f; owner = window_owner ws })

-- the frame has 1 to 1024 ticks, and the shares add to no more
abbrev pub cycle_answer : ℕ → List ℕ → Answer (Unit {0})
cycle_answer f shares = and_then (frame_answer f) (cond (nat_le (sum shares) f) (granted tt) (refused 55 []))

-- partition p owns the first places, as many as its share, partition p + 1 the next, and so on; what is left is nobody's
unfoldable pub share_owner : ℕ → List ℕ → ℕ → Option ℕ
share_owner p [] x = None
share_owner p (n ∷ ns) x = cond (nat_lt x n) (Some p) (share_owner (p + 1) ns (x - n))

-- an opened cycle of shares, from partition 0 on, in a frame of f ticks
abbrev pub share_timetable : ℕ → List ℕ → Timetable
share_timetable f shares = opened (cycle_answer f shares) (record { frame = f; owner = share_owner 0 shares })

-- Shifts: place x of the shifted timetable is the place (x + k) mod F below.
abbrev pub shifted : Timetable → ℕ → Timetable
shifted t k = record { frame = t.frame; owner = λ x. t.owner ((x + k) % t.frame) }

-- What these mean keeps the law: opened lists, opened cycles of at most eight shares, and shifts of what keeps it.
pub record TimetablesAreLawful : Type 0 where
  pub windows : (rule : Neighbours) (f : ℕ) (ws : List Window) → LawfulTimetable (window_timetable rule f ws)
  pub cycles : (f : ℕ) (shares : List ℕ) → length shares ≤ 8 → LawfulTimetable (share_timetable f shares)
  pub shifts : (t : Timetable) (k : ℕ) → LawfulTimetable t → LawfulTimetable (shifted t k)

-- In a window list that is allowed no place is covered twice.
abbrev pub CoveredOnce : Type 0
CoveredOnce =
    (f x : ℕ) (earlier between later : List Window) (v w : Window) →
    list_answer overlap f (earlier ++ (v ∷ (between ++ (w ∷ later)))) ≡ granted tt → covers v x ≡ true → covers w x ≢ true
