use Rattle.std.proofs.Common.{ap, ◌∙◌, ◌+◌, length, List}
use Rattle.jn_base.specs.declared.number.PointNo.{PointNo}
use Rattle.std.specs.Prelude.{Option}
use Rattle.jn_lowering.specs.Locals.{State, all_declared}
use Rattle.jn_places.specs.PlacedView.{placed_statements}
use Rattle.jn_lower_expr.specs.Labels.{given, resolved}
use Rattle.jn_lower_stmt.specs.Sources.{source_of}
use Rattle.jn_lower_stmt.proofs.Making.{body_made}
use Rattle.jn_lower_stmt.proofs.lower.lower_body.Goals as goal

pub returns : goal.returns
returns c =
    body_made c.args.program.now (source_of c.args.source.now) c.in_ok-first.first c.in_ok-s.s c.whole.new.s _ c.whole.new.e c.of_vec.result c.of_vec-2.result
    (c.in_ok-first.ensures ∙ ap (λ n. n + all_declared (placed_statements c.args.source.now.body.now)) (c.in_ok-given.ensures ∙ ap (λ (s : State). length s.locals) c.in_ok-s.ensures))
    c.in_ok-s.ensures c.new.ensures.items c.in_ok-whole.ensures
    (c.of_vec.ensures ∙ c.in_ok-regs.ensures)
    (c.of_vec-2.ensures ∙ c.in_ok-points.ensures ∙ ap (λ (ls : List (Option PointNo)). resolved (given ls) c.whole.new.e.points.items) c.deref.ensures.value)
