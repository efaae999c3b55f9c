use Rattle.std.proofs.Common.{◌≡◌, ℕ, ◌+◌, ◌<◌, List, [], ◌∷◌, ◌++◌, length, get_or, take, drop, sym, ap, ◌∙◌, arith}
use Rattle.std.proofs.lemmas.List.{append_assoc, append-nil, drop-drop, drop_more, drop-set-lt, length-take-le, take-append-drop, take_more_set}
use Rattle.std.proofs.lemmas.List.Sums.{sum_by-drop_more}
use Rattle.model.specs.declared.window.Window.{Window}
use Rattle.model.specs.Planning.{end_to_end, written}
use Rattle.planner.proofs.Windows.{end_none, window_more, window_none}
use Rattle.planner.proofs.plan.write.Goals as goal

pub loop-partition-preserved-then-share-eq0 : goal.loop-partition-preserved-then-share-eq0
loop-partition-preserved-then-share-eq0 c =
    let qs : List ℕ = c.args.shares.now in
    let i : ℕ = c.loop-partition.partition in
    let x : ℕ = c.loop-partition.start in
    let first : List Window = take c.loop-partition.count c.loop-partition.windows in
    let rest = drop_more qs i 0 c.loop-partition-test.true in (
      omega arith,
      omega (arith, sum_by-drop_more (λ q. q) qs i 0 c.loop-partition-test.true, c.loop-partition.invariant.1, c.if-share-eq0.true),
      ap (λ ws. first ++ ws) (sym (ap (end_to_end i x) rest ∙ window_none i x (get_or qs i 0) (drop (i + 1) qs) c.if-share-eq0.true)) ∙ c.loop-partition.invariant.2,
      c.loop-partition.invariant.3,
    )

pub loop-partition-preserved : goal.loop-partition-preserved
loop-partition-preserved c =
    let qs : List ℕ = c.args.shares.now in
    let ws : List Window = c.loop-partition.windows in
    let old : List Window = c.args.windows.now in
    let i : ℕ = c.loop-partition.partition in
    let n : ℕ = c.loop-partition.count in
    let x : ℕ = c.loop-partition.start in
    let q : ℕ = get_or qs i 0 in
    let w : Window = record { partition = i; start = x; length = q } in
    let later : List Window = end_to_end (i + 1) (x + q) (drop (i + 1) qs) in
    let l : n < length ws = omega (arith, c.loop-partition.invariant.0, c.loop-partition-test.true, c.requires.few, c.requires.room) in
    let rest = ap (end_to_end i x) (drop_more qs i 0 c.loop-partition-test.true) ∙ window_more i x q (drop (i + 1) qs) c.if-share-eq0.false in (
      omega (arith, c.loop-partition.invariant.0),
      omega (arith, sum_by-drop_more (λ q. q) qs i 0 c.loop-partition-test.true, c.loop-partition.invariant.1),
      ap (λ z. z ++ later) (take_more_set ws n w l)
          ∙ (append_assoc (take n ws) (w ∷ []) later ∙ (ap (λ z. take n ws ++ z) (sym rest) ∙ c.loop-partition.invariant.2)),
      drop-set-lt (n + 1) ws n w (omega arith) ∙ (sym (drop-drop 1 n ws) ∙ (ap (drop 1) c.loop-partition.invariant.3 ∙ drop-drop 1 n old)),
    )

pub returns : goal.returns
unfolding written
returns c =
    let qs : List ℕ = c.args.shares.now in
    let ws : List Window = c.loop-partition.windows in
    let old : List Window = c.args.windows.now in
    let i : ℕ = c.loop-partition.partition in
    let n : ℕ = c.loop-partition.count in
    let all : take n ws ≡ end_to_end 0 0 qs =
    sym (append-nil (take n ws)) ∙ (ap (λ z. take n ws ++ z) (sym (end_none i c.loop-partition.start qs c.loop-partition-test.false)) ∙ c.loop-partition.invariant.2) in
    let size : n ≡ length (end_to_end 0 0 qs) =
    sym (length-take-le n ws (omega (arith, c.loop-partition.invariant.0, c.requires.few, c.requires.room))) ∙ ap length all in
    record {
      count = size;
      after = sym (take-append-drop n ws) ∙ (ap (λ z. z ++ drop n ws) all ∙ (ap (λ z. end_to_end 0 0 qs ++ z) c.loop-partition.invariant.3 ∙ ap (λ k. end_to_end 0 0 qs ++ drop k old) size));
    }
