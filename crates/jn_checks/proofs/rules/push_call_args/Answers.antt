use Rattle.std.proofs.Common.{◌≡◌, ◌++◌, OnOk, List, Option, Some, None, refl, sym, ap, ◌∙◌, subst}
use Rattle.std.specs.Prelude.{slice_get}
use Rattle.std.proofs.lemmas.Option.{slice_get_read, slice_get_past}
use Rattle.jn_base.specs.declared.number.SlotNo.{SlotNo}
use Rattle.jn_points.specs.declared.program.Method.{Method}
use Rattle.jn_points.specs.Lookup.{method_at, slots_of}
use Rattle.jn_sigs.specs.Signature.{slot_quals}
use Rattle.jn_transfer.specs.Rules.{arg_rows}
use Rattle.jn_checks.proofs.Steps.{no_rows}
use Rattle.jn_checks.proofs.rules.push_call_args.Goals as goal

pub returns-in-None : goal.returns-in-None
returns-in-None c =
    let n = c.args.method.0 in
    let at : method_at c.args.program.now n ≡ None = ap (λ ms. slice_get ms n) (sym c.as_slice.ensures) ∙ slice_get_past c.as_slice.result.now n c.in-None.ensures.lookup.3 in
    no_rows (λ (m : Option Method). arg_rows c.args.env.now (slot_quals c.args.sig.now (slots_of m)) c.args.args.now) (method_at c.args.program.now n) None c.args.rows.now.items at refl

pub returns-in-Some : goal.returns-in-Some
returns-in-Some c =
    let n = c.args.method.0 in
    let info = c.in-Some.info.now in
    let there = c.in-Some.ensures.lookup in
    let at : method_at c.args.program.now n ≡ Some info = ap (λ ms. slice_get ms n) (sym c.as_slice.ensures) ∙ slice_get_read c.as_slice.result.now _ n info refl there.3.0 there.1 in
    subst (λ (slots : List (Option SlotNo)). OnOk c.push_args.result (c.push_args.new.rows.items ≡ c.args.rows.now.items ++ arg_rows c.args.env.now (slot_quals c.args.sig.now slots) c.args.args.now)) (c.as_slice-in-Some.ensures ∙ ap slots_of (sym at)) c.push_args.ensures
