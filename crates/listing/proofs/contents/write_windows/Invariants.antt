use Rattle.std.proofs.Common.{◌≡◌, ◌++◌, take, string_bytes}
use Rattle.std.specs.List.{flat_map}
use Rattle.tape.specs.declared.command.Command.TheVariants.{Window}
use Rattle.listing.specs.Lines.{line}
use Rattle.listing.proofs.contents.write_windows.Given as goal

abbrev pub invariant-loop-window : goal.invariant-loop-window
invariant-loop-window l =
    string_bytes l.text ≡ string_bytes l.initial.text ++ flat_map (λ w. line (Window w)) (take l.window-index l.windows)
