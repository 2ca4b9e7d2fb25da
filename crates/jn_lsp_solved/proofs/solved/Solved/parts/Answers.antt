use Rattle.std.proofs.Common.{◌≡◌, sym, subst, ◌∙◌}
use Rattle.jn_contrib.specs.Entries.{AreOverriders}
use Rattle.jn_note_words.specs.Owned.{AreOwners}
use Rattle.jn_lsp_solved.specs.Solving.{AreSolved, HaveTrees, SolvedFiles, solved_by}
use Rattle.jn_lsp_solved.proofs.solved.Solved.parts.Goals as goal

pub returns-clause-hold : goal.returns-clause-hold
returns-clause-hold c =
    let i = c.self.inside in
    let P = c.program.result.now in
    let tables = c.deref-3.result.now in
    let here : SolvedFiles = solved_by i.infer i.encoding i.files.now i.names P i.sig tables in
    let same : solved_by i.infer i.encoding i.files.now i.names i.base i.sig i.tables.items ≡ here = λ k. solved_by i.infer i.encoding i.files.now i.names (sym c.program.ensures.is k) i.sig (sym c.deref-3.ensures.value k) in
    let facts : AreSolved here = subst AreSolved same c.self.invariant.0 in
    record {
      typed = subst (HaveTrees here) (sym c.deref.ensures.value) (subst (λ (v : SolvedFiles). HaveTrees v i.trees.items) same c.self.invariant.1);
      inferable = facts.inferable;
      indexed = c.indexed.ensures.is ∙ sym c.program.ensures.is;
      overriders = subst (AreOverriders P) (sym c.deref-2.ensures.value) (subst (λ (v : SolvedFiles). AreOverriders v.program i.overriders.items) same c.self.invariant.3);
      least = facts.least;
      solved = facts.solved;
      sized = c.least_tables_are_sized.ensures P i.sig tables facts.inferable facts.solved.least;
      owners = subst (AreOwners P) (sym c.deref-4.ensures.value) (subst (λ (v : SolvedFiles). AreOwners v.program i.owners.items) same c.self.invariant.4);
    }
