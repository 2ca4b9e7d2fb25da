use Rattle.std.proofs.Common.{◌<◌, List, length, refl, sym, subst, ◌∙◌}
use Rattle.jn_front.specs.declared.source.SourceFile.{SourceFile}
use Rattle.jn_lsp_solved.proofs.Fitting.{small_at}
use Rattle.jn_lsp.proofs.unchecked.unchecked_at.Goals as goal

pub kept-requires : goal.kept-requires
kept-requires c =
    let lt = subst (λ (files : List SourceFile). c.args.at < length files) (sym (c.as_slice-files.ensures.are ∙ c.file_set.ensures)) c.requires.there in
    record { small = small_at c.as_slice-files.result.now c.args.at c.index-files-at.result c.index-files-at.result.bytes c.as_slice-files.ensures.fit lt c.index-files-at.is refl }
