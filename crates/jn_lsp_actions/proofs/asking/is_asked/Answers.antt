use Rattle.std.proofs.Common.{◌≡◌, List, Some, refl, sym, ap, subst, ◌∙◌}
use Rattle.std.specs.Prelude.{slice_get}
use Rattle.std.proofs.lemmas.Option.{slice_get_past, slice_get_read}
use Rattle.jn_front.specs.declared.source.SourceFile.{SourceFile}
use Rattle.jn_lsp_actions.specs.Asking.{is_asked, is_asked_in}
use Rattle.jn_lsp_actions.proofs.asking.is_asked.Goals as goal

pub is_asked_in-requires : goal.is_asked_in-requires
is_asked_in-requires c =
    let found = c.in-Some.ensures.lookup in
    let read : slice_get c.files-files.result.now c.args.span.file.0 ≡ Some c.in-Some.file.now = slice_get_read _ _ _ _ refl found.3.0 found.1 in
    record { there = subst (λ (files : List SourceFile). slice_get files c.args.span.file.0 ≡ Some c.in-Some.file.now) c.files-files.ensures read }

pub returns-in-None : goal.returns-in-None
returns-in-None c =
    let marked = c.args.marked.now in
    let none = sym (ap (is_asked_in marked.encoding c.args.name.now c.args.range c.args.span) (slice_get_past c.files-files.result.now c.args.span.file.0 c.in-None.ensures.lookup.3)) in
    none ∙ ap (λ (files : List SourceFile). is_asked marked.encoding files c.args.name.now c.args.range c.args.span) c.files-files.ensures

pub returns-in-Some : goal.returns-in-Some
returns-in-Some c =
    let marked = c.args.marked.now in
    let found = c.in-Some.ensures.lookup in
    let read : slice_get c.files-files.result.now c.args.span.file.0 ≡ Some c.in-Some.file.now = slice_get_read _ _ _ _ refl found.3.0 found.1 in
    let there = subst (λ (files : List SourceFile). slice_get files c.args.span.file.0 ≡ Some c.in-Some.file.now) c.files-files.ensures read in
    c.is_asked_in.ensures ∙ sym (ap (is_asked_in marked.encoding c.args.name.now c.args.range c.args.span) there)
