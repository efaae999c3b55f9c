use Rattle.std.proofs.Common.{◌≡◌, ◌+◌, ◌-◌, ◌/◌, ◌<◌, ◌≤◌, length, get_or, ap, ◌∙◌, arith}
use Rattle.std.proofs.lemmas.List.{get_or_default}
use Rattle.model.specs.declared.window.Window.{Window}
use Rattle.model.specs.WindowLists.{end_of}
use Rattle.timetable.proofs.Sequences.{ended_before, in_sequence, open_after}
use Rattle.timetable.proofs.window_list.WindowList.ended_by.Goals as goal

pub loop-low-preserved-then-from-place : goal.loop-low-preserved-then-from-place
loop-low-preserved-then-from-place c =
    let t = c.args.self.now in
    let ws = t.windows.items in
    let inv = c.loop-low.invariant in
    let m = c.loop-low.low + (c.loop-low.high - c.loop-low.low) / 2 in
    let l : m < length ws = omega arith in
    let same : (d : Window) → c.index.result.now ≡ get_or ws m d = λ d. c.index.ensures ∙ get_or_default ws m _ d l in
    let ended : (d : Window) → end_of (get_or ws m d) ≤ c.args.place = λ d. omega (arith, ap end_of (same d), c.end.ensures, c.from.ensures, c.if-from-place.true) in
    (omega arith, inv.1, λ i d k. ended_before ws (in_sequence t.frame ws t.allowed) m c.args.place d l (ended d) i (omega arith), inv.3)

pub loop-low-preserved : goal.loop-low-preserved
loop-low-preserved c =
    let t = c.args.self.now in
    let ws = t.windows.items in
    let inv = c.loop-low.invariant in
    let m = c.loop-low.low + (c.loop-low.high - c.loop-low.low) / 2 in
    let l : m < length ws = omega arith in
    let same : (d : Window) → c.index.result.now ≡ get_or ws m d = λ d. c.index.ensures ∙ get_or_default ws m _ d l in
    let later : (d : Window) → c.args.place < end_of (get_or ws m d) = λ d. omega (arith, ap end_of (same d), c.end.ensures, c.from.ensures, c.if-from-place.false) in
    (omega arith, omega arith, inv.2, λ i d k n. open_after ws (in_sequence t.frame ws t.allowed) m c.args.place d l (later d) i k n)
