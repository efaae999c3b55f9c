use Rattle.std.proofs.Common.{◌≡◌, ℕ, ◌%◌, ◌<◌, ◌++◌, true, false, ◌&&◌, ltb, leb, get_or, drop, replicate, Some, None, sym, ap, ◌∙◌, mod-lt, arith, rules}
use mathlib.Core.Path.{fun_ext}
use Rattle.std.proofs.lemmas.Bool.{and_from, cond-true, le-leb}
use Rattle.model.specs.Planning.{first_places}
use Rattle.analysis.proofs.Filling.{first_filled}
use Rattle.analysis.proofs.places.Places.first.Goals as goal

pub returns : goal.returns
returns c =
    let f : ℕ = c.args.frame in
    let n : ℕ = c.from.result in
    let within : (leb 1 f && leb f 1024) ≡ true = and_from (leb 1 f) (leb f 1024) (le-leb 1 f c.if-frame-lt1.false) (le-leb f 1024 c.if-frame-gt1024.false) in
    let filled : c.fill.new.self ≡ replicate n true = search rules in
    let owned : (u : ℕ) → get_or (c.fill.new.self ++ drop n (replicate 1024 false)) (u % f) false ≡ ltb (u % f) c.args.count =
    λ u.
    let l : u % f < f = mod-lt u c.if-frame-lt1.false in
    ap (λ xs. get_or (xs ++ drop n (replicate 1024 false)) (u % f) false) filled
    ∙ first_filled n 1024 c.args.count (u % f) (λ k. omega (arith, c.from.ensures, c.min.ensures)) (λ k. omega (arith, c.from.ensures, c.min.ensures)) in
    ap Some (fun_ext owned) ∙ sym (cond-true (leb 1 f && leb f 1024) (Some (first_places f c.args.count)) None within)
