use Rattle.std.proofs.Common.{ap, ◌∙◌}
use Rattle.jn_lsp_solved.specs.Solving.{SolvedFiles}
use Rattle.jn_note_words.specs.Owned.{owner_of}
use Rattle.jn_note_words.specs.Worded.{owner_words}
use Rattle.jn_lsp_actions.proofs.edits.Lexed.owner_of.Goals as goal

pub returns : goal.returns
returns c =
    let parts = c.parts-parts.result in
    c.in_ok-words.ensures
    ∙ ap (owner_words parts.program.now parts.names.now) (c.owner_at-owner.ensures ∙ c.parts-parts.ensures.hold.owners.each c.args.slot)
    ∙ ap (λ (v : SolvedFiles). owner_words v.program v.names (owner_of v.program c.args.slot)) c.parts-parts.ensures.are
