-- What is found at each form that names a member, of what is found in its parts.
use Rattle.std.proofs.Common.{◌≡◌, ℕ, List, [], ◌∷◌, ◌++◌, Box, Vec, Global, Option, sym, ap, ◌∙◌}
use Rattle.jn_base.specs.declared.place.Span.{Span}
use Rattle.jn_trees.specs.declared.expression.ElementType.{ElementType}
use Rattle.jn_trees.specs.declared.expression.Identifier.{Identifier}
use Rattle.jn_trees.specs.declared.expression.Expr.{Expr}
use Rattle.jn_trees.specs.declared.statement.Stmt.{Stmt}
use Rattle.jn_trees.specs.declared.statement.Stmt.TheVariants.{Block}
use Rattle.jn_trees.specs.declared.expression.Expr.TheVariants.{Call, OwnCall, SuperCall, New, ArrayOf}
use Rattle.jn_lowering.specs.Scopes.{count}
use Rattle.jn_places.specs.PlacedView.{placed_statement, placed_statements, placed_view, placed_views}
use Rattle.jn_scopes.proofs.Seen.{seen_call, seen_own_call, seen_super_call, seen_new, seen_array_of}
use Rattle.jn_refused_notes.proofs.Shown.{one_then, one_then_both, seen_block}
use Rattle.jn_phase_notes.specs.declared.mentioning.Kind.TheVariants.{Calls, Makes}
use Rattle.jn_phase_notes.specs.declared.mentioning.Mention.{Mention}
use Rattle.jn_phase_notes.specs.Mentions.{mention, mentions, mentions_of_all, statement_mentions, statements_mentions}

module _ (e : Expr) (v : Vec Expr Global) (s : Span) (es : List Expr) (b : es ≡ v.items) where
  pub own_named : (n : Identifier) (k : ℕ) (old mid new : List Mention) → e ≡ OwnCall n v s → k ≡ count (placed_views es) → mid ≡ old ++ mention Calls n n.span k ∷ [] → new ≡ mid ++ mentions_of_all (placed_views es) → new ≡ old ++ mentions (placed_view e)
  own_named n k old mid new is c g h = one_then old mid new _ _ _ _ (ap (mention Calls n n.span) c) (ap mentions (seen_own_call e n v s es is b)) g h

  pub super_named : (n : Identifier) (k : ℕ) (old mid new : List Mention) → e ≡ SuperCall n v s → k ≡ count (placed_views es) → mid ≡ old ++ mention Calls n n.span k ∷ [] → new ≡ mid ++ mentions_of_all (placed_views es) → new ≡ old ++ mentions (placed_view e)
  super_named n k old mid new is c g h = one_then old mid new _ _ _ _ (ap (mention Calls n n.span) c) (ap mentions (seen_super_call e n v s es is b)) g h

  pub new_named : (n : Identifier) (k : ℕ) (old mid new : List Mention) → e ≡ New n v s → k ≡ count (placed_views es) → mid ≡ old ++ mention Makes n n.span k ∷ [] → new ≡ mid ++ mentions_of_all (placed_views es) → new ≡ old ++ mentions (placed_view e)
  new_named n k old mid new is c g h = one_then old mid new _ _ _ _ (ap (mention Makes n n.span) c) (ap mentions (seen_new e n v s es is b)) g h

  pub call_named : (p : Box Expr Global) (t : Expr) (n : Identifier) (k : ℕ) (old mid next new : List Mention) → e ≡ Call p n v s → t ≡ p.value → k ≡ count (placed_views es) → mid ≡ old ++ mention Calls n n.span k ∷ [] → next ≡ mid ++ mentions (placed_view t) → new ≡ next ++ mentions_of_all (placed_views es) → new ≡ old ++ mentions (placed_view e)
  call_named p t n k old mid next new is te c g h l =
      one_then_both old mid next new _ _ _ _ _ (ap (mention Calls n n.span) c) (ap mentions (seen_call e p n v s es is b)) g (h ∙ ap (λ x. mid ++ mentions (placed_view x)) te) l

  pub array_named : (t : Box ElementType Global) (old new : List Mention) → e ≡ ArrayOf t v s → new ≡ old ++ mentions_of_all (placed_views es) → new ≡ old ++ mentions (placed_view e)
  array_named t old new is g = g ∙ ap (λ m. old ++ m) (sym (ap mentions (seen_array_of e t v s es is b)))

pub block_named : (own : Identifier) (parent : Option Identifier) (e : Stmt) (v : Vec Stmt Global) (s : Span) (ss : List Stmt) (old new : List Mention) → e ≡ Block v s → ss ≡ v.items → new ≡ old ++ statements_mentions own parent (placed_statements ss) → new ≡ old ++ statement_mentions own parent (placed_statement e)
block_named own parent e v s ss old new is b g = g ∙ ap (λ m. old ++ m) (sym (ap (statement_mentions own parent) (seen_block e v s ss is b)))
