use Rattle.std.proofs.Common.{false, None}
use Rattle.jn_points.specs.Lookup as lookup
use Rattle.jn_lower_expr.proofs.Composing.{called_all}
use Rattle.jn_lower_expr.proofs.calls.call_static.Goals as goal

pub returns : goal.returns
returns c = λ vs start g. called_all c.args.c.now.program.now c.args.c.now.first vs c.args.args None false c.args.span c.args.method.0 (lookup.result_base_of (lookup.method_at c.args.c.now.program.now c.args.method.0)) c.in_ok-given.given start c.args.e.now c.call_method.new.e c.args.t.now c.call_method.new.t g c.in_ok-given.ensures
