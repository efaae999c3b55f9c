-- The owner of a place of a share cycle: one share after another.
use Rattle.std.proofs.Common.{◌≡◌, ℕ, zero, suc, ◌+◌, ◌-◌, ◌<◌, ◌≤◌, cond, ltb, List, length, get_or, drop, replicate, Some, None, refl, ap, ◌∙◌, arith}
use mathlib.Core.Path.{fun_ext}
use Rattle.std.proofs.lemmas.List.{at_drop_all, at_drop_more}
use Rattle.std.proofs.lemmas.Bool.{cond-false, le-ltb}
use Rattle.timetable.proofs.Opened.{owner_granted}
use Rattle.model.specs.Timetables.{share_owner, share_timetable, bare_frame, opened}

pub share_more : (shares : List ℕ) (p x : ℕ) → p < length shares → share_owner p (drop p shares) x ≡ cond (ltb x (get_or shares p 0)) (Some p) (share_owner (p + 1) (drop (p + 1) shares) (x - get_or shares p 0))
unfolding share_owner
share_more shares p x h = at_drop_more (λ l. share_owner p l x) shares p 0 h

-- a place past a share goes on to the next
pub share_past : (shares : List ℕ) (p x : ℕ) → p < length shares → get_or shares p 0 ≤ x → share_owner p (drop p shares) x ≡ share_owner (p + 1) (drop (p + 1) shares) (x - get_or shares p 0)
share_past shares p x h k = share_more shares p x h ∙ cond-false _ _ _ (le-ltb x (get_or shares p 0) k)

pub shares_end : (shares : List ℕ) (p x : ℕ) → length shares ≤ p → share_owner p (drop p shares) x ≡ None
unfolding share_owner
shares_end shares p x h = at_drop_all (λ l. share_owner p l x) shares p h

-- what a walk through the shares takes
pub ruleset share_steps = (share_more, share_past, shares_end, owner_granted)

no_share : (n p x : ℕ) → share_owner p (replicate n 0) x ≡ None
unfolding share_owner
no_share zero p x = refl
no_share (suc n) p x = rw (le-ltb x 0 (omega arith)) (no_share n (p + 1) (x - 0))

pub no_shares : share_timetable 1 (replicate 8 0) ≡ bare_frame
unfolding opened
no_shares = ap (λ o. record { frame = 1; owner = o }) (fun_ext (λ x. no_share 8 0 x))
