use Rattle.std.proofs.Common.{◌<◌, List, length, ap, sym, subst, ◌∙◌, arith}
use Rattle.std.proofs.lemmas.Bool.Decides.{nat_tests}
use Rattle.jn_front.specs.declared.source.SourceFile.{SourceFile}
use Rattle.jn_lsp.proofs.Finding.{told_none, told_some}
use Rattle.jn_lsp.proofs.reporting.tell.Goals as goal

pub returns-then-listed-eq0 : goal.returns-then-listed-eq0
returns-then-listed-eq0 g c =
    let none = ap (λ (fs : List SourceFile). length fs) (sym c.as_slice-listed.ensures.are) ∙ c.if-listed-eq0.true in
    told_none c.args.infer c.args.encoding c.args.last.now c.args.files.now c.new.result.items none c.new.ensures.items

pub returns : goal.returns
returns g c =
    let some : 0 < length c.as_slice-listed.result.now = grind (arith, nat_tests, c.if-listed-eq0.false) in
    told_some c.args.infer c.args.encoding c.args.last.now c.in_ok-tale.tale.came c.args.files.now c.in_ok-tale.tale.told.items (subst (λ (fs : List SourceFile). 0 < length fs) c.as_slice-listed.ensures.are some) c.in_ok-tale.ensures
