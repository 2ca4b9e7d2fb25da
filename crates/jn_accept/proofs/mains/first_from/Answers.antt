use Rattle.std.proofs.Common.{◌≡◌, Some, refl, sym, ap, ◌∙◌, arith, length}
use Rattle.std.specs.Prelude.{slice_get}
use Rattle.std.proofs.lemmas.Option.{slice_get_read}
use Rattle.jn_points.specs.Lookup.{method_at}
use Rattle.jn_accept.proofs.OneMain.{none_more, first_there, none_from}
use Rattle.jn_accept.proofs.mains.first_from.Goals as goal

pub returns-then-has_form-clause-first : goal.returns-then-has_form-clause-first
returns-then-has_form-clause-first c =
    let at : method_at c.args.program.now c.loop-number.number ≡ Some c.index-methods-number.result = ap (λ ms. slice_get ms c.loop-number.number) (sym c.as_slice-methods.ensures) ∙ slice_get_read c.as_slice-methods.result.now _ c.loop-number.number c.index-methods-number.result refl c.loop-number-test.true c.index-methods-number.is in
    first_there c.args.program.now c.args.place c.loop-number.number c.index-methods-number.result c.loop-number.auto.number at (sym c.has_form.ensures ∙ c.if-has_form.true) c.loop-number.invariant

pub loop-number-preserved : goal.loop-number-preserved
loop-number-preserved c =
    let at : method_at c.args.program.now c.loop-number.number ≡ Some c.index-methods-number.result = ap (λ ms. slice_get ms c.loop-number.number) (sym c.as_slice-methods.ensures) ∙ slice_get_read c.as_slice-methods.result.now _ c.loop-number.number c.index-methods-number.result refl c.loop-number-test.true c.index-methods-number.is in
    none_more c.args.program.now c.args.place c.loop-number.number c.index-methods-number.result at (sym c.has_form.ensures ∙ c.if-has_form.false) c.loop-number.invariant

pub returns-clause-first : goal.returns-clause-first
returns-clause-first c = none_from c.args.program.now c.args.place c.loop-number.number (let e = c.as_slice-methods.ensures in let le = c.loop-number-test.false in omega (arith, le, ap length e)) c.loop-number.invariant
