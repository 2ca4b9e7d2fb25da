use Rattle.std.proofs.Common.{true, sym, ap, ◌∙◌}
use Rattle.jn_env.specs.Code.{is_field}
use Rattle.jn_env.specs.Keys.{also, own_keys}
use Rattle.jn_env.proofs.Weight.{same_env}
use Rattle.jn_transfer.specs.Transfer.{ctor_called}
use Rattle.std.specs.Prelude.{None}
use Rattle.jn_transfer.proofs.analysis.Analysis.call_ctor.Goals as goal

pub returns-then-own : goal.returns-then-own
returns-then-own c =
    let P = c.args.self.now.program in
    let b = c.args.self.now.body in
    let e = c.args.env.now in
    let made = c.drop_facts.ensures in
    let is = same_env c.assign.new.self (ctor_called P b e true)
    (c.assign.ensures.quals ∙ ap (λ x. x.quals) made)
    (c.assign.ensures.facts ∙ ap (λ x. x.facts) made)
    (c.assign.ensures.assigned ∙ ap (λ ks. also (is_field None) ks c.drop_facts.new.env.assigned) c.keys.ensures.own ∙ ap (λ x. also (is_field None) (own_keys P b) x.assigned) made) in
    is ∙ ap (λ o. ctor_called P b e o) (sym c.if-own.true)
