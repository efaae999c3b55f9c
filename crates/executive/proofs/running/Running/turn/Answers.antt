use Rattle.std.proofs.Common.{◌≡◌, Some, None, vec_items, refl, sym, ap, ◌∙◌, arith, rules}
use Rattle.model.specs.Timetables.{owner_at}
use Rattle.jobs.specs.Tables.{tick_reply_of}
use Rattle.executive.proofs.Tables.{kept, lacking_answer, lacking_state, spare_answer, spare_state, turn_answer, turn_state}
use Rattle.executive.proofs.running.Running.turn.Goals as goal

pub returns-in_default : goal.returns-in_default
returns-in_default g c =
    let x = c.args.self.now in
    let t = g.T.Timetable.means x.sealed.table in
    let rule = g.D.Dispatch.rule x.sealed.dispatch in
    let own : owner_at t x.clock ≡ None = ap (owner_at t) (sym c.now.ensures.tick) ∙ sym c.in_default.ensures in
    record {
      answer = λ l. spare_answer t rule (vec_items x.tables) _ x.level x.clock l own;
      after = λ l. spare_state t rule (vec_items x.tables) _ x.level x.clock l own;
      same = refl;
      clock = refl;
    }

pub returns-then-partition-len : goal.returns-then-partition-len
returns-then-partition-len g c =
    let x = c.args.self.now in
    let p = c.in-Some.partition in
    let t = g.T.Timetable.means x.sealed.table in
    let rule = g.D.Dispatch.rule x.sealed.dispatch in
    let own : owner_at t x.clock ≡ Some p = ap (owner_at t) (sym c.now.ensures.tick) ∙ sym c.in-Some.ensures in
    record {
      answer = λ l. lacking_answer t rule (vec_items x.tables) _ x.level x.clock l p own (omega arith);
      after = λ l. lacking_state t rule (vec_items x.tables) _ x.level x.clock l p own (omega arith);
      same = refl;
      clock = refl;
    }

pub invariant_of-self-2 : goal.invariant_of-self-2
invariant_of-self-2 g c =
    let x = c.args.self.now in
    record { level = kept (vec_items x.tables) _ x.level c.in-Some.partition _ (omega arith) c.index_mut.ensures.value c.work.new.self c.work.ensures.tasks }

pub returns : goal.returns
returns g c =
    let x = c.args.self.now in
    let p = c.in-Some.partition in
    let t = g.T.Timetable.means x.sealed.table in
    let rule = g.D.Dispatch.rule x.sealed.dispatch in
    let own : owner_at t x.clock ≡ Some p = ap (owner_at t) (sym c.now.ensures.tick) ∙ sym c.in-Some.ensures in
    let told : c.map_or.result ≡ tick_reply_of p c.work.result = search rules in
    record {
      answer = λ l. turn_answer t rule (vec_items x.tables) _ x.level x.clock l p own _ (omega arith) c.index_mut.ensures.value _ (told ∙ c.work.ensures.answer t);
      after = λ l. turn_state t rule (vec_items x.tables) _ x.level x.clock l p own _ (omega arith) c.index_mut.ensures.value c.work.new.self (c.work.ensures.after t x.clock own);
      same = refl;
      clock = refl;
    }
