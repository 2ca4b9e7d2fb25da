use Rattle.std.proofs.Common.{Result, OnOk, sym, subst}
use Rattle.std.specs.declared.alloc.AllocError.{AllocError}
use Rattle.jn_chain.specs.Keys.{IsPut, rest_of}
use Rattle.jn_chain.proofs.Keeping.{put_is}
use Rattle.jn_chain.proofs.chains.Chains.put.Goals.{in-Ok, in-Err}
use Rattle.jn_chain.proofs.chains.Chains.put.Goals as goal

pub returns : goal.returns
returns c =
    let P : Type 0 = IsPut c.args.item c.args.rest (rest_of c.args.self.now) (rest_of c.insert.new.self.entries) in
    elim c.match-insert.branch [
      | in-Ok w ↦ subst (λ (r : Result (Unit {0}) AllocError). OnOk r P) (sym w.result-is)
          (put_is c.self.inside.rests c.insert.new.self c.args.self.now c.args.item c.args.rest c.key_of.result c.key_of.ensures c.self.view_is w.in-Ok.ensures.updates.0)
      | in-Err w ↦ subst (λ (r : Result (Unit {0}) AllocError). OnOk r P) (sym w.result-is) tt
    ]
