use Rattle.std.proofs.Common.{◌≡◌, ◌||◌, ◌∙◌, Bool, ap, arith}
use Rattle.jn_system.proofs.ReadSteps.{methods_more}
use Rattle.jn_system.proofs.reading.some_given.Goals as goal

pub loop-method-preserved : goal.loop-method-preserved
loop-method-preserved c =
    methods_more c.args.program.now c.args.word c.args.methods.now c.loop-method.method-index _ c.loop-method.some c.either-some.result _ c.loop-method-test.true
    (c.either-some.ensures ∙ ap (λ (b : Bool). c.loop-method.some || b) c.method_given.ensures)
    c.loop-method.invariant
