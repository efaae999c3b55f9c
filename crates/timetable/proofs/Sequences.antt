-- Windows in sequence: an allowed list is in sequence, and in a sequence the first window that ends after a place decides.
use Rattle.std.proofs.Common.{◌≡◌, ℕ, zero, suc, ◌+◌, ◌%◌, ◌<◌, ◌≤◌, Bool, true, false, cond, leb, List, [], ◌∷◌, length, get_or, Some, None, Option, sym, refl, ap, ◌∙◌, inl, inr, arith}
use mathlib.Core.Path.{fun_ext}
use Rattle.std.specs.Prelude.{option_and_then, slice_get}
use Rattle.std.specs.List.Sorted.{IsPartitionPoint}
use Rattle.std.proofs.lemmas.Bool.{cases_eq, leb-true, leb-false}
use Rattle.std.proofs.lemmas.Bool.Decides.{nat_tests}
use Rattle.model.specs.declared.window.Window.{Window}
use Rattle.model.specs.Timetables.{bare_frame, covers, opened, owner_at, window_owner, window_timetable}
use Rattle.model.specs.WindowLists.{end_of, overlap, frame_answer, count_answer, list_answer}
use Rattle.model.proofs.Timetables.{Allowed, both_grant, after_it, next_begins}
use Rattle.timetable.specs.Granted.{is_granted}
use Rattle.timetable.proofs.Opened.{grants, owner_granted}

-- each window ends before any later one begins
abbrev pub InSequence : List Window → Type 0
InSequence ws = (i j : ℕ) (d : Window) → i < j → j < length ws → end_of (get_or ws i d) ≤ (get_or ws j d).start

-- the window ends before the place x
abbrev pub has_ended : ℕ → Window → Bool
has_ended x w = leb (end_of w) x

-- a window ends before those after it begin
begins_after : (f i : ℕ) (v : Window) (ws : List Window) (j : ℕ) (d : Window) → Allowed f i (Some v) ws → j < length ws → end_of v ≤ (get_or ws j d).start
begins_after f i v [] j d h l = absurd (omega arith)
begins_after f i v (w ∷ ws) zero d h l = next_begins f i v w ws h
begins_after f i v (w ∷ ws) (suc j) d h l =
    omega (arith, next_begins f i v w ws h, begins_after f (i + 1) w ws j d (after_it f i (Some v) w ws h) (omega arith))

windows_in_sequence : (f n : ℕ) (v : Option Window) (ws : List Window) → Allowed f n v ws → InSequence ws
windows_in_sequence f n v [] h i j d less l = absurd (omega arith)
windows_in_sequence f n v (w ∷ ws) h i zero d less l = absurd (omega arith)
windows_in_sequence f n v (w ∷ ws) h zero (suc j) d less l = begins_after f (n + 1) w ws j d (after_it f n v w ws h) (omega arith)
windows_in_sequence f n v (w ∷ ws) h (suc i) (suc j) d less l = windows_in_sequence f (n + 1) (Some w) ws (after_it f n v w ws h) i j d (omega arith) (omega arith)

pub in_sequence : (f : ℕ) (ws : List Window) → is_granted (list_answer overlap f ws) ≡ true → InSequence ws
in_sequence f ws e =
    let g = both_grant (frame_answer f) _ (grants (list_answer overlap f ws) e) in
    let k = both_grant (count_answer (length ws)) _ g.1 in
    windows_in_sequence f 0 None ws k.1

-- before one that has ended all have, and after one that has not none has
module _ (ws : List Window) (s : InSequence ws) (n x : ℕ) (d : Window) (l : n < length ws) where
  pub ended_before : end_of (get_or ws n d) ≤ x → (i : ℕ) → i ≤ n → end_of (get_or ws i d) ≤ x
  ended_before h i k = elim (cases_eq i n) [ inl e ↦ rw e h | inr o ↦ omega (arith, s i n d (omega arith) l) ]

  pub open_after : x < end_of (get_or ws n d) → (i : ℕ) → n ≤ i → i < length ws → x < end_of (get_or ws i d)
  open_after h i k m = elim (cases_eq i n) [ inl e ↦ rw e h | inr o ↦ omega (arith, s n i d (omega arith) m) ]

-- windows that have not begun do not count
none_begun : (ws : List Window) (x : ℕ) → ((i : ℕ) (d : Window) → i < length ws → x < (get_or ws i d).start) → window_owner ws x ≡ None
unfolding window_owner
none_begun [] x h = refl
none_begun (w ∷ ws) x h =
    let e : covers w x ≡ false = grind (arith, nat_tests, h 0 w (omega arith)) in
    rw e (none_begun ws x (λ i d l. h (suc i) d (omega arith)))

-- the owner of a place, by the first window that has not ended
abbrev pub owner_if_begun : ℕ → Option Window → Option ℕ
owner_if_begun x o = option_and_then (λ w. cond (leb w.start x) (Some w.partition) None) o

first_decides : (ws : List Window) (n x : ℕ) → InSequence ws → IsPartitionPoint (λ w. has_ended x w ≡ true) (λ w. has_ended x w ≡ false) ws n → window_owner ws x ≡ owner_if_begun x (slice_get ws n)
unfolding window_owner
first_decides [] n x s h = refl
first_decides (w ∷ ws) zero x s h =
    let ends_later = leb-false _ _ (h.1 0 w (omega arith) (omega arith)) in
    let later : x < w.start → window_owner ws x ≡ None = λ l. none_begun ws x (λ i d m. omega (arith, s 0 (suc i) d (omega arith) (omega arith))) in
    grind (arith, nat_tests, later)
first_decides (w ∷ ws) (suc n) x s h =
    let ended : covers w x ≡ false = grind (arith, nat_tests, leb-true _ _ (h.0 0 w (omega arith) (omega arith))) in
    rw ended (first_decides ws n x (λ i j d l m. s (suc i) (suc j) d (omega arith) (omega arith)) (λ i d l m. h.0 (suc i) d (omega arith) (omega arith), λ i d l m. h.1 (suc i) d (omega arith) (omega arith)))

-- the first window that has not ended decides
pub owner_by_point : (f u n : ℕ) (ws : List Window) → is_granted (list_answer overlap f ws) ≡ true → IsPartitionPoint (λ w. has_ended (u % f) w ≡ true) (λ w. has_ended (u % f) w ≡ false) ws n → owner_if_begun (u % f) (slice_get ws n) ≡ owner_at (window_timetable overlap f ws) u
owner_by_point f u n ws e h = sym (owner_granted (list_answer overlap f ws) _ u e ∙ first_decides ws n (u % f) (in_sequence f ws e) h)

pub no_windows : window_timetable overlap 1 [] ≡ bare_frame
unfolding opened window_owner
no_windows = ap (λ o. record { frame = 1; owner = o }) (fun_ext (λ x. refl))
