use Rattle.std.proofs.Common.{sym, subst, Option}
use Rattle.std.specs.Prelude.{OnOk}
use Rattle.jn_points.specs.declared.point.PointKind.TheVariants.{Move}
use Rattle.jn_quals.specs.Qualifier.{Qualifier}
use Rattle.jn_lowering.specs.Fragments.{does}
use Rattle.jn_lowering.specs.Forms as form
use Rattle.jn_lower_expr.specs.declared.places.Spot as codes
use Rattle.jn_lower_expr.specs.Lowering.{Runs, spot_of}
use Rattle.jn_lower_expr.proofs.places.write.Goals as goal

pub returns-in-Local : goal.returns-in-Local
returns-in-Local c = subst (λ (s : codes.Spot). OnOk c.step.result (Runs (form.write c.args.c.now.program.now c.args.c.now.first (spot_of c.args.c.now.faults.now s) c.args.span c.args.value) c.args.e.now c.step.new.e)) (sym c.in-Local.is) (subst (λ (b : Option Qualifier). OnOk c.step.result (Runs (does c.args.span (Move c.in-Local.variable.reg c.args.value b)) c.args.e.now c.step.new.e)) c.qualifier.ensures c.step.ensures)

pub returns-in-Static : goal.returns-in-Static
returns-in-Static c = subst (λ (s : codes.Spot). OnOk c.step-in-Static.result (Runs (form.write c.args.c.now.program.now c.args.c.now.first (spot_of c.args.c.now.faults.now s) c.args.span c.args.value) c.args.e.now c.step-in-Static.new.e)) (sym c.in-Static.is) (c.step-in-Static.ensures)

pub returns-in-Field : goal.returns-in-Field
returns-in-Field c = subst (λ (s : codes.Spot). OnOk c.step-in-Field.result (Runs (form.write c.args.c.now.program.now c.args.c.now.first (spot_of c.args.c.now.faults.now s) c.args.span c.args.value) c.args.e.now c.step-in-Field.new.e)) (sym c.in-Field.is) (c.step-in-Field.ensures)

pub returns-in-Element : goal.returns-in-Element
returns-in-Element c = subst (λ (s : codes.Spot). OnOk c.step-in-Element.result (Runs (form.write c.args.c.now.program.now c.args.c.now.first (spot_of c.args.c.now.faults.now s) c.args.span c.args.value) c.args.e.now c.step-in-Element.new.e)) (sym c.in-Element.is) (c.step-in-Element.ensures)
