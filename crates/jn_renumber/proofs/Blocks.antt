-- A block whose statements are renumbered.
use Rattle.std.proofs.Common.{◌≡◌, List, Vec, Global, refl, sym, ap, ◌∙◌}
use Rattle.jn_base.specs.declared.number.NameNo.{NameNo}
use Rattle.jn_base.specs.declared.place.Span.{Span}
use Rattle.jn_trees.specs.declared.statement.Stmt.{Stmt}
use Rattle.jn_trees.specs.declared.statement.Stmt.TheVariants.{Block}
use Rattle.jn_places.specs.Placed.{PlacedBlock}
use Rattle.jn_places.specs.PlacedView.{placed_statement, placed_statements}
use Rattle.jn_places.proofs.Rows.{block_placed}
use Rattle.jn_renumber.specs.Renumbered.{renumbered_statement, renumbered_statements}

pub block_renumbered : (ns : List NameNo) (v w : Vec Stmt Global) (s r : Span) (old : Stmt) → old ≡ Block v s → PlacedBlock (placed_statements w.items) r ≡ PlacedBlock (renumbered_statements ns (placed_statements v.items)) s → placed_statement (Block w r) ≡ renumbered_statement ns (placed_statement old)
block_renumbered ns v w s r old is e =
    block_placed w r _ (e ∙ ap (renumbered_statement ns) (sym (ap placed_statement is ∙ block_placed v s _ refl)))
