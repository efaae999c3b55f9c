use Rattle.std.proofs.Common.{◌++◌, length, take, refl, ap, ◌∙◌, arith, rules}
use Rattle.std.proofs.lemmas.Slice.{take-put_mid, drop-put_mid, overwrites}
use Rattle.tape_writer.proofs.writer.Cursor.put.Goals as goal

pub returns : goal.returns
returns c =
    let at = c.args.self.now.at in
    let was = c.args.self.now.buffer.now in
    let put = c.copy_from_slice.ensures.after in
    let size = ap length put in
    record {
      same = refl;
      size = search (rules, overwrites);
      at = refl;
      front = take-put_mid at _ was _ _ (omega (arith, size)) (omega arith) ∙ ap (λ bs. take at was ++ bs) put;
      back = drop-put_mid at _ was _ _ (omega arith) (omega arith) (omega (arith, size));
    }
