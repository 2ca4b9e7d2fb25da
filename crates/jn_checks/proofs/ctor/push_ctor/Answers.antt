use Rattle.std.proofs.Common.{◌≡◌, ◌++◌, ◌&&◌, OnOk, List, Option, Some, None, refl, sym, ap, ◌∙◌, subst}
use Rattle.std.specs.Prelude.{slice_get}
use Rattle.std.proofs.lemmas.Option.{slice_get_read, slice_get_past}
use Rattle.jn_base.specs.declared.place.Row.{Row}
use Rattle.jn_base.specs.declared.code.Code.TheVariants.{CtorFields}
use Rattle.jn_points.specs.declared.program.Method.{Method}
use Rattle.jn_points.specs.declared.program.Program.{Program}
use Rattle.jn_points.specs.Lookup.{method_at, points_of}
use Rattle.jn_transfer.specs.Rules.{row_if, unset_from, ctor_rows}
use Rattle.jn_checks.proofs.Steps.{no_rows}
use Rattle.jn_checks.proofs.ctor.push_ctor.Goals as goal

pub returns-in-None : goal.returns-in-None
returns-in-None c =
    let A = c.args.analysis.now in
    let n = c.args.info.now.method.0 in
    let at : method_at A.program n ≡ None = ap (λ ms. slice_get ms n) (sym (c.as_slice.ensures ∙ ap (λ (p : Program). p.methods) c.program.ensures)) ∙ slice_get_past c.as_slice.result.now n c.in-None.ensures.lookup.3 in
    no_rows (λ (m : Option Method). ctor_rows A.program A.sig A.body m c.args.slots.now) (method_at A.program n) None c.args.rows.now.items at refl

pub returns-in-Some : goal.returns-in-Some
returns-in-Some c =
    let A = c.args.analysis.now in
    let P = A.program in
    let n = c.args.info.now.method.0 in
    let method = c.in-Some.method.now in
    let t = c.args.slots.now in
    let there = c.in-Some.ensures.lookup in
    let at : method_at P n ≡ Some method = ap (λ ms. slice_get ms n) (sym (c.as_slice.ensures ∙ ap (λ (p : Program). p.methods) c.program.ensures)) ∙ slice_get_read c.as_slice.result.now _ n method refl there.3.0 there.1 in
    let points = c.as_slice-in-Some.ensures ∙ sym (ap points_of c.requires.body) in
    let is = ap (λ w. row_if w method.span CtorFields) (c.leaves_unset.ensures ∙ ap (λ ps. method.ctor && unset_from P A.sig A.body ps 0 t) points) ∙ ap (λ m. ctor_rows P A.sig A.body m t) (sym at) in
    subst (λ (more : List Row). OnOk c.push_if.result (c.push_if.new.rows.items ≡ c.args.rows.now.items ++ more)) is c.push_if.ensures
