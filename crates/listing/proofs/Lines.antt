-- The lines of a tape, part by part.
use Rattle.std.proofs.Common.{◌≡◌, ℕ, List, ◌++◌, map, sym, ap, ◌∙◌}
use Rattle.std.proofs.lemmas.List.{append-nil}
use Rattle.std.proofs.lemmas.List.Folds.{flat_map-map}
use Rattle.std.specs.List.{flat_map}
use Rattle.model.specs.declared.window.Window.{Window as ModelWindow}
use Rattle.model.specs.Modules.{Module}
use Rattle.draft.specs.declared.draft.Partition.{Partition}
use Rattle.draft.specs.Drafts.{tasks_in}
use Rattle.tape.specs.declared.command.Command.TheVariants.{Frame, Window}
use Rattle.tape.specs.Commands.{partition_commands, commands}
use Rattle.tape.proofs.Parts.{commands_parts}
use Rattle.listing.specs.Lines.{line, window_lines}

-- the partitions, the frame, the windows
pub all_lines : (ps : List Partition) (m : Module) (f : ℕ) (ws : List ModelWindow) → map tasks_in ps ≡ m → flat_map (λ p. flat_map line (partition_commands (tasks_in p))) ps ++ (line (Frame f) ++ window_lines ws) ≡ flat_map line (commands m f ws)
all_lines ps m f ws e =
    ap (λ t. flat_map (λ p. flat_map line (partition_commands (tasks_in p))) ps ++ (line (Frame f) ++ t)) (flat_map-map line Window ws ∙ sym (append-nil (flat_map (λ w. line (Window w)) ws)))
    ∙ sym (commands_parts line ps m f ws e)
