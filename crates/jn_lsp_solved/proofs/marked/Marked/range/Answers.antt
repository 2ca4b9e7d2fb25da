use Rattle.std.proofs.Common.{◌≡◌, List, Some, refl, subst}
use Rattle.std.specs.Prelude.{slice_get}
use Rattle.std.proofs.lemmas.Option.{slice_get_read}
use Rattle.jn_lsp_text.specs.Marking.{CountedText}
use Rattle.jn_lsp_solved.proofs.Marking.{range_there}
use Rattle.jn_lsp_solved.proofs.marked.Marked.range.Goals as goal

pub returns-in-Some : goal.returns-in-Some
returns-in-Some c =
    let found = c.in-Some.ensures.lookup in
    let read : slice_get c.deref.result.now c.args.file ≡ Some c.in-Some.marks.now = slice_get_read _ _ _ _ refl found.3.0 found.1 in
    let here = subst (λ (ms : List CountedText). slice_get ms c.args.file ≡ Some c.in-Some.marks.now) c.deref.ensures.value read in
    range_there c.self.inside.encoding c.self.inside.files.now c.self.inside.marks.items c.args.file c.args.from c.args.to c.in-Some.marks.now c.range.result c.args.self.now c.self.invariant here c.range.ensures c.self.view_is
