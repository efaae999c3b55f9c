-- What a module's commands give, part by part.
use Rattle.std.proofs.Common.{◌≡◌, ℕ, List, [], ◌∷◌, ◌++◌, map, sym, ap, ◌∙◌}
use Rattle.std.proofs.lemmas.List.{append-nil}
use Rattle.std.proofs.lemmas.List.Concat.{flat_map-append}
use Rattle.std.proofs.lemmas.List.Folds.{flat_map-map}
use Rattle.std.specs.List.{flat_map}
use Rattle.model.specs.declared.window.Window.{Window as ModelWindow}
use Rattle.model.specs.Modules.{Module}
use Rattle.draft.specs.declared.draft.Partition.{Partition}
use Rattle.draft.specs.Drafts.{tasks_in}
use Rattle.tape.specs.declared.command.Command.{Command}
use Rattle.tape.specs.declared.command.Command.TheVariants.{Frame, Window, End}
use Rattle.tape.specs.Commands.{partition_commands, commands}
use Rattle.tape.proofs.Lists.{flat_map-flat_map}

-- the partitions, the frame, the windows, the end
pub commands_parts : {A : Type 0} (g : Command → List A) (ps : List Partition) (m : Module) (f : ℕ) (ws : List ModelWindow) → map tasks_in ps ≡ m → flat_map g (commands m f ws) ≡ flat_map (λ p. flat_map g (partition_commands (tasks_in p))) ps ++ (g (Frame f) ++ (flat_map (λ w. g (Window w)) ws ++ g End))
commands_parts g ps m f ws e =
    flat_map-append g (flat_map partition_commands m) (Frame f ∷ (map Window ws ++ (End ∷ [])))
    ∙ (ap (λ t. t ++ (g (Frame f) ++ flat_map g (map Window ws ++ (End ∷ [])))) (flat_map-flat_map g partition_commands m ∙ (ap (flat_map (λ ks. flat_map g (partition_commands ks))) (sym e) ∙ flat_map-map (λ ks. flat_map g (partition_commands ks)) tasks_in ps))
    ∙ ap (λ t. flat_map (λ p. flat_map g (partition_commands (tasks_in p))) ps ++ (g (Frame f) ++ t)) (flat_map-append g (map Window ws) (End ∷ []) ∙ (ap (λ t. t ++ (g End ++ [])) (flat_map-map g Window ws) ∙ ap (λ t. flat_map (λ w. g (Window w)) ws ++ t) (append-nil (g End)))))
