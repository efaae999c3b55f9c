-- Calls one after another: what holds of each, in the state in which it is made, and of the state that they lead to.
use Rattle.std.proofs.Common.{◌≡◌, List, [], ◌∷◌, ◌++◌, subst}
use Rattle.model.specs.declared.call.Call.{Call}
use Rattle.model.specs.FlightRecords.{flown}
use Rattle.model.specs.Machine.{Engine, MachineState, after}
use Rattle.model.specs.Modules.{Module}

module _ (g : Engine) (m : Module) (P : MachineState → Call → Type 0) where
  -- P holds of each call
  abbrev pub AtEach : MachineState → List Call → Type 0
  AtEach st [] = Unit {0}
  AtEach st (c ∷ cs) = P st c × AtEach (after g m st c) cs

  -- P holds of each call, and Q of the state after them
  abbrev pub Goes : MachineState → List Call → (MachineState → Type 0) → Type 0
  Goes st cs Q = AtEach st cs × Q (flown g m st cs)

  pub then_goes : (Q R : MachineState → Type 0) (st : MachineState) (xs ys : List Call) → Goes st xs Q → ((s : MachineState) → Q s → Goes s ys R) → Goes st (xs ++ ys) R
  unfolding flown
  then_goes Q R st [] ys h next = next st h.1
  then_goes Q R st (c ∷ xs) ys h next = let on = then_goes Q R (after g m st c) xs ys (h.0.1, h.1) next in ((h.0.0, on.0), on.1)

  at_call : (st : MachineState) (earlier later : List Call) (c : Call) → AtEach st (earlier ++ (c ∷ later)) → P (flown g m st earlier) c
  unfolding flown
  at_call st [] later c h = h.0
  at_call st (b ∷ earlier) later c h = at_call (after g m st b) earlier later c h.1

  pub at_split : (st : MachineState) (cs earlier later : List Call) (c : Call) → AtEach st cs → cs ≡ earlier ++ (c ∷ later) → P (flown g m st earlier) c
  at_split st cs earlier later c h split = at_call st earlier later c (subst (AtEach st) split h)
