use Rattle.std.proofs.Common.{◌≡◌, Some, refl, sym, ap, subst, ◌∙◌}
use Rattle.std.specs.Prelude.{slice_get, slice_index_or, replicate}
use Rattle.std.proofs.lemmas.Option.{slice_get_read}
use Rattle.jn_points.specs.declared.program.Program.{Program}
use Rattle.jn_points.specs.Lookup.{regs_of, body_at, method_at}
use Rattle.jn_env.specs.Keys.{no_bits}
use Rattle.jn_env.specs.Sized.{EnvSized}
use Rattle.jn_quals.specs.Order.{no_qual}
use Rattle.jn_transfer.specs.Transfer.{pad_quals, given_quals}
use Rattle.jn_transfer.proofs.Sized.{entry_sized}
use Rattle.jn_transfer.proofs.Entering.{entry_is, given_padded}
use Rattle.jn_transfer.proofs.entry.entry.Goals as goal

pub returns : goal.returns
returns c =
    let P = c.args.analysis.now.program in
    let s = c.args.analysis.now.sig in
    let b = c.args.analysis.now.body in
    let info = c.index-as_slice-body.result in
    let old = c.in_ok-env.ensures in
    let program = c.program-program.ensures in
    let body = c.body-body.ensures in
    let at : slice_get P.bodies b ≡ Some info = slice_get_read P.bodies _ b info refl c.requires.inside (c.index-as_slice-body.is ∙ ap (λ xs. slice_index_or xs c.body-body.result.0 info) (c.as_slice.ensures ∙ ap (λ (p : Program). p.bodies) program) ∙ ap (λ i. slice_index_or P.bodies i info) body) in
    let regs : regs_of (body_at c.program-program.result.now c.body-body.result.0) ≡ regs_of (body_at P b) = λ i. regs_of (body_at (program i) (body i)) in
    let given : given_quals c.sig-sig.result.now (method_at c.program-program.result.now info.method.0) ≡ given_quals s (method_at P info.method.0) = λ i. given_quals (c.sig-sig.ensures i) (method_at (program i) info.method.0) in
    let is = entry_is P s b info _ at
    (given_padded c.deref.result.now _ _ (regs_of (body_at P b)) (old.quals ∙ ap (λ n. replicate n no_qual) regs) c.give.ensures.quals ∙ ap (λ g. pad_quals g (regs_of (body_at P b))) (c.deref.ensures.value ∙ c.in_ok-given.ensures ∙ given))
    (c.give.ensures.facts ∙ old.facts ∙ ap (λ ks. no_bits ks) c.keys.ensures.facts)
    (c.give.ensures.assigned ∙ old.assigned ∙ ap (λ ks. no_bits ks) c.keys.ensures.own) in
    record { is = is; sized = subst (λ e. EnvSized P b e) (sym is) (entry_sized P s b 0) }
