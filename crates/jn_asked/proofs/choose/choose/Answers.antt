use Rattle.std.proofs.Common.{sym, ap, ◌∙◌}
use Rattle.std.specs.Str.{bytes_eq}
use Rattle.jn_asked.proofs.Choosing.{named_here, not_here}
use Rattle.jn_asked.proofs.choose.choose.Goals as goal

pub returns-then-eq : goal.returns-then-eq
returns-then-eq g c =
    named_here _ c.args.name.now c.args.reporters.items c.loop-reporter.yielded c.loop-reporter.reporter-iterator.rest.items c.next.new.self.rest.items c.in-Some.reporter c.loop-reporter.invariant.2 c.in-Some.ensures.steps.0 c.loop-reporter.invariant.3
    (ap (λ t. bytes_eq t c.args.name.now) (sym (c.name.ensures ∙ ap (λ p. ((goal.Reporter-dyn g p).form p.1).title) c.deref_box-1.ensures.1)) ∙ sym c.eq.ensures ∙ c.if-eq.true)

pub loop-reporter-preserved : goal.loop-reporter-preserved
loop-reporter-preserved g c =
    let more = not_here _ c.args.name.now c.args.reporters.items c.loop-reporter.yielded c.loop-reporter.reporter-iterator.rest.items c.next.new.self.rest.items c.in-Some.reporter c.loop-reporter.invariant.2 c.in-Some.ensures.steps.0 c.loop-reporter.invariant.3
    (ap (λ t. bytes_eq t c.args.name.now) (sym (c.name.ensures ∙ ap (λ p. ((goal.Reporter-dyn g p).form p.1).title) c.deref_box-1.ensures.1)) ∙ sym c.eq.ensures ∙ c.if-eq.false) in
    (tt, tt, more.0, more.1)
