use Rattle.std.proofs.Common.{refl, sym, subst}
use Rattle.jn_points.specs.declared.point.BaseType.{BaseType}
use Rattle.jn_points.specs.declared.point.BaseType.TheVariants.{Int}
use Rattle.jn_points.specs.declared.point.PointKind.TheVariants.{StaticRead, FieldRead, ElemRead, ArrayLen}
use Rattle.jn_lowering.specs.Forms as form
use Rattle.jn_lower_expr.specs.declared.places.Spot as codes
use Rattle.jn_lower_expr.specs.Lowering.{Gives, spot_of}
use Rattle.jn_lower_expr.proofs.Giving.{given, gave_void}
use Rattle.jn_lower_expr.proofs.Composing.{read_at}
use Rattle.jn_lower_expr.proofs.places.read.Goals as goal

pub returns-in-Local : goal.returns-in-Local
returns-in-Local c = λ p base start f. read_at c.args.c.now.program.now c.args.c.now.first p base c.args.c.now.faults.now c.args.span c.args.place (record { operand = (record { reg = c.in-Local.variable.reg; span = c.args.span }); base = c.args.place.base }) start c.args.e.now c.args.e.now c.args.t.now c.args.t.now f (λ before at rb. subst (λ (s : codes.Spot). Gives (form.read c.args.c.now.program.now c.args.c.now.first (spot_of c.args.c.now.faults.now s) c.args.t.now before c.args.span) at (record { reg = c.in-Local.variable.reg; span = c.args.span }) c.args.e.now c.args.t.now) (sym c.in-Local.is) (record { runs = rb; operand = refl; behind = refl })) refl

pub returns-in_ok-step-in-Static : goal.returns-in_ok-step-in-Static
returns-in_ok-step-in-Static c = λ p base start f. read_at c.args.c.now.program.now c.args.c.now.first p base c.args.c.now.faults.now c.args.span c.args.place (record { operand = (record { reg = c.in_ok-dst-in-Static.dst; span = c.args.span }); base = c.args.place.base }) start c.args.e.now c.step.new.e c.args.t.now c.temporary.new.t f (λ before at rb. subst (λ (s : codes.Spot). Gives (form.read c.args.c.now.program.now c.args.c.now.first (spot_of c.args.c.now.faults.now s) c.args.t.now before c.args.span) at (record { reg = c.in_ok-dst-in-Static.dst; span = c.args.span }) c.step.new.e c.temporary.new.t) (sym c.in-Static.is) (subst (λ (b : BaseType). Gives (form.gives c.args.c.now.program.now c.args.c.now.first c.args.t.now before b c.args.span (λ dst. StaticRead dst c.in-Static.field)) at (record { reg = c.in_ok-dst-in-Static.dst; span = c.args.span }) c.step.new.e c.temporary.new.t) c.field_base.ensures (given c.args.c.now.program.now c.args.c.now.first c.args.t.now c.args.t.now before c.field_base.result c.args.span (λ dst. StaticRead dst c.in-Static.field) c.in_ok-dst-in-Static.dst at c.args.e.now c.step.new.e c.temporary.new.t refl c.in_ok-dst-in-Static.ensures.register c.in_ok-dst-in-Static.ensures.behind rb c.in_ok-step-in-Static.ensures))) refl

pub returns-in_ok-step-in-Field : goal.returns-in_ok-step-in-Field
returns-in_ok-step-in-Field c = λ p base start f. read_at c.args.c.now.program.now c.args.c.now.first p base c.args.c.now.faults.now c.args.span c.args.place (record { operand = (record { reg = c.in_ok-dst-in-Field.dst; span = c.args.span }); base = c.args.place.base }) start c.args.e.now c.step-in-Field.new.e c.args.t.now c.temporary-in-Field.new.t f (λ before at rb. subst (λ (s : codes.Spot). Gives (form.read c.args.c.now.program.now c.args.c.now.first (spot_of c.args.c.now.faults.now s) c.args.t.now before c.args.span) at (record { reg = c.in_ok-dst-in-Field.dst; span = c.args.span }) c.step-in-Field.new.e c.temporary-in-Field.new.t) (sym c.in-Field.is) (subst (λ (b : BaseType). Gives (form.gives c.args.c.now.program.now c.args.c.now.first c.args.t.now before b c.args.span (λ dst. FieldRead dst c.in-Field.object c.in-Field.field)) at (record { reg = c.in_ok-dst-in-Field.dst; span = c.args.span }) c.step-in-Field.new.e c.temporary-in-Field.new.t) c.field_base-in-Field.ensures (given c.args.c.now.program.now c.args.c.now.first c.args.t.now c.args.t.now before c.field_base-in-Field.result c.args.span (λ dst. FieldRead dst c.in-Field.object c.in-Field.field) c.in_ok-dst-in-Field.dst at c.args.e.now c.step-in-Field.new.e c.temporary-in-Field.new.t refl c.in_ok-dst-in-Field.ensures.register c.in_ok-dst-in-Field.ensures.behind rb c.in_ok-step-in-Field.ensures))) refl

pub returns-in_ok-step-in-Element : goal.returns-in_ok-step-in-Element
returns-in_ok-step-in-Element c = λ p base start f. read_at c.args.c.now.program.now c.args.c.now.first p base c.args.c.now.faults.now c.args.span c.args.place (record { operand = (record { reg = c.in_ok-dst-in-Element.dst; span = c.args.span }); base = c.args.place.base }) start c.args.e.now c.step-in-Element.new.e c.args.t.now c.temporary-in-Element.new.t f (λ before at rb. subst (λ (s : codes.Spot). Gives (form.read c.args.c.now.program.now c.args.c.now.first (spot_of c.args.c.now.faults.now s) c.args.t.now before c.args.span) at (record { reg = c.in_ok-dst-in-Element.dst; span = c.args.span }) c.step-in-Element.new.e c.temporary-in-Element.new.t) (sym c.in-Element.is) (given c.args.c.now.program.now c.args.c.now.first c.args.t.now c.args.t.now before c.in-Element.base c.args.span (λ dst. ElemRead dst c.in-Element.array c.in-Element.index) c.in_ok-dst-in-Element.dst at c.args.e.now c.step-in-Element.new.e c.temporary-in-Element.new.t refl c.in_ok-dst-in-Element.ensures.register c.in_ok-dst-in-Element.ensures.behind rb c.in_ok-step-in-Element.ensures)) refl

pub returns-in_ok-step-in-Length : goal.returns-in_ok-step-in-Length
returns-in_ok-step-in-Length c = λ p base start f. read_at c.args.c.now.program.now c.args.c.now.first p base c.args.c.now.faults.now c.args.span c.args.place (record { operand = (record { reg = c.in_ok-dst-in-Length.dst; span = c.args.span }); base = c.args.place.base }) start c.args.e.now c.step-in-Length.new.e c.args.t.now c.temporary-in-Length.new.t f (λ before at rb. subst (λ (s : codes.Spot). Gives (form.read c.args.c.now.program.now c.args.c.now.first (spot_of c.args.c.now.faults.now s) c.args.t.now before c.args.span) at (record { reg = c.in_ok-dst-in-Length.dst; span = c.args.span }) c.step-in-Length.new.e c.temporary-in-Length.new.t) (sym c.in-Length.is) (given c.args.c.now.program.now c.args.c.now.first c.args.t.now c.args.t.now before Int c.args.span (λ dst. ArrayLen dst c.in-Length.array) c.in_ok-dst-in-Length.dst at c.args.e.now c.step-in-Length.new.e c.temporary-in-Length.new.t refl c.in_ok-dst-in-Length.ensures.register c.in_ok-dst-in-Length.ensures.behind rb c.in_ok-step-in-Length.ensures)) refl

pub returns-in_ok-given-in-Nothing : goal.returns-in_ok-given-in-Nothing
returns-in_ok-given-in-Nothing c = λ p base start f. read_at c.args.c.now.program.now c.args.c.now.first p base c.args.c.now.faults.now c.args.span c.args.place (record { operand = c.in_ok-given-in-Nothing.given.operand; base = c.args.place.base }) start c.args.e.now c.args.e.now c.args.t.now c.void.new.t f (λ before at rb. subst (λ (s : codes.Spot). Gives (form.read c.args.c.now.program.now c.args.c.now.first (spot_of c.args.c.now.faults.now s) c.args.t.now before c.args.span) at c.in_ok-given-in-Nothing.given.operand c.args.e.now c.void.new.t) (sym c.in-Nothing.is) (gave_void c.args.c.now.program.now c.args.c.now.first c.args.t.now c.args.t.now before c.args.span c.in_ok-given-in-Nothing.given.operand at c.args.e.now c.void.new.t refl c.in_ok-given-in-Nothing.ensures.register c.in_ok-given-in-Nothing.ensures.behind rb)) refl
