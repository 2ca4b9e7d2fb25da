use Rattle.std.proofs.Common.{List, sym, subst}
use Rattle.jn_front.specs.Files.{files_of_reads}
use Rattle.jn_front.specs.Phases.{LexedFrom}
use Rattle.jn_front.specs.declared.source.SourceFile.{SourceFile}
use Rattle.jn_front.specs.declared.source.SourceRead.{SourceRead}
use Rattle.jn_known.specs.Known.{known_names}
use Rattle.jn_lsp_solved.specs.Solving.{AreTokens, SolvedFiles}
use Rattle.jn_lsp_solved.proofs.solved.Solved.tokens.Goals as goal

pub lex_all-requires-clause-lexes : goal.lex_all-requires-clause-lexes
lex_all-requires-clause-lexes c =
    let names = c.self.inside.names in
    let typed = c.self.invariant.1.0 in
    let tokens = typed.of_files.tokens in
    let lexed = subst (λ (fs : List SourceFile). LexedFrom 0 known_names fs tokens names) (sym c.self.invariant.2.whole) typed.of_files.lowered.declared.parsed.lexed in
    (tokens, names, subst (λ (rs : List SourceRead). LexedFrom 0 known_names (files_of_reads rs) tokens names) (sym c.deref.ensures.value) lexed)

pub returns : goal.returns
returns c =
    let names = c.self.inside.names in
    subst (λ (w : SolvedFiles). AreTokens w c.in_ok-tokens.tokens.items) c.self.view_is
    (λ typed.
    let tokens = typed.of_files.tokens in
    let lexed = subst (λ (fs : List SourceFile). LexedFrom 0 known_names fs tokens names) (sym c.self.invariant.2.whole) typed.of_files.lowered.declared.parsed.lexed in
    c.in_ok-tokens.ensures tokens names (subst (λ (rs : List SourceRead). LexedFrom 0 known_names (files_of_reads rs) tokens names) (sym c.deref.ensures.value) lexed))
