-- What is found at each form with a list of others, of what is found in its parts.
use Rattle.std.proofs.Common.{◌≡◌, ℕ, List, [], ◌∷◌, ◌++◌, Box, Vec, Global, Option, Result, Ok, Err, refl, sym, ap, ◌∙◌, append_assoc}
use Rattle.std.specs.Prelude.{OnOk}
use Rattle.jn_base.specs.declared.place.Span.{Span}
use Rattle.jn_trees.specs.declared.expression.ElementType.{ElementType}
use Rattle.jn_trees.specs.declared.expression.Identifier.{Identifier}
use Rattle.jn_trees.specs.declared.expression.Expr.{Expr}
use Rattle.jn_trees.specs.declared.statement.Stmt.{Stmt}
use Rattle.jn_trees.specs.declared.statement.Stmt.TheVariants.{Block}
use Rattle.jn_trees.specs.declared.expression.Expr.TheVariants.{Call, OwnCall, SuperCall, New, ArrayOf}
use Rattle.jn_places.specs.PlacedView.{placed_statement, placed_statements, placed_view, placed_views}
use Rattle.jn_places.specs.Placed.{PlacedBlock}
use Rattle.jn_places.proofs.Rows.{block_placed}
use Rattle.jn_scopes.proofs.Seen.{seen_call, seen_own_call, seen_super_call, seen_new, seen_array_of}
use Rattle.jn_refused_notes.specs.declared.causes.Cause.{Cause}
use Rattle.jn_refused_notes.specs.declared.causes.Refusal.{Refusal}
use Rattle.jn_refused_notes.specs.Marked.{refusal}
use Rattle.jn_refused_notes.specs.Refused.{call_cause, element_refusals, refusals, refusals_of_all, statement_refusals, statements_refusals}

-- what holds of what was done follows from what else does
pub on_ok : {E T P Q : Type 0} (r : Result T E) → (P → Q) → OnOk r P → OnOk r Q
on_ok (Ok x) f p = f p
on_ok (Err e) f p = tt

-- some, and then more
pub some_then : {A : Type 0} (old mid new some more whole : List A) → whole ≡ some ++ more → mid ≡ old ++ some → new ≡ mid ++ more → new ≡ old ++ whole
some_then old mid new some more whole is g h =
    h ∙ ap (λ m. m ++ more) g ∙ append_assoc old some more ∙ ap (λ w. old ++ w) (sym is)

-- one, and then those of a part
pub one_then : {A : Type 0} (old mid new more whole : List A) (x y : A) → x ≡ y → whole ≡ y ∷ more → mid ≡ old ++ x ∷ [] → new ≡ mid ++ more → new ≡ old ++ whole
one_then old mid new more whole x y same is g h =
    h ∙ ap (λ m. m ++ more) g ∙ append_assoc old (x ∷ []) more ∙ ap (λ z. old ++ z ∷ more) same ∙ ap (λ w. old ++ w) (sym is)

-- one, and then those of two parts
pub one_then_both : {A : Type 0} (old mid next new some more whole : List A) (x y : A) → x ≡ y → whole ≡ y ∷ (some ++ more) → mid ≡ old ++ x ∷ [] → next ≡ mid ++ some → new ≡ next ++ more → new ≡ old ++ whole
one_then_both old mid next new some more whole x y same is g h k =
    one_then old mid new (some ++ more) whole x y same is g (k ∙ ap (λ m. m ++ more) h ∙ append_assoc mid some more)

module _ (e : Expr) (v : Vec Expr Global) (s : Span) (es : List Expr) (b : es ≡ v.items) where
  pub own_shown : (n : Identifier) (k : Cause) (old mid new : List Refusal) → e ≡ OwnCall n v s → k ≡ call_cause n.name.0 → mid ≡ old ++ refusal k n.span ∷ [] → new ≡ mid ++ refusals_of_all (placed_views es) → new ≡ old ++ refusals (placed_view e)
  own_shown n k old mid new is c g h = one_then old mid new _ _ _ _ (ap (λ (x : Cause). refusal x n.span) c) (ap refusals (seen_own_call e n v s es is b)) g h

  pub super_shown : (n : Identifier) (k : Cause) (old mid new : List Refusal) → e ≡ SuperCall n v s → k ≡ call_cause n.name.0 → mid ≡ old ++ refusal k n.span ∷ [] → new ≡ mid ++ refusals_of_all (placed_views es) → new ≡ old ++ refusals (placed_view e)
  super_shown n k old mid new is c g h = one_then old mid new _ _ _ _ (ap (λ (x : Cause). refusal x n.span) c) (ap refusals (seen_super_call e n v s es is b)) g h

  pub call_shown : (p : Box Expr Global) (t : Expr) (n : Identifier) (k : Cause) (old mid next new : List Refusal) → e ≡ Call p n v s → t ≡ p.value → k ≡ call_cause n.name.0 → mid ≡ old ++ refusal k n.span ∷ [] → next ≡ mid ++ refusals (placed_view t) → new ≡ next ++ refusals_of_all (placed_views es) → new ≡ old ++ refusals (placed_view e)
  call_shown p t n k old mid next new is te c g h l =
      one_then_both old mid next new _ _ _ _ _ (ap (λ (x : Cause). refusal x n.span) c) (ap refusals (seen_call e p n v s es is b)) g (h ∙ ap (λ x. mid ++ refusals (placed_view x)) te) l

  pub new_shown : (n : Identifier) (old new : List Refusal) → e ≡ New n v s → new ≡ old ++ refusals_of_all (placed_views es) → new ≡ old ++ refusals (placed_view e)
  new_shown n old new is g = g ∙ ap (λ m. old ++ m) (sym (ap refusals (seen_new e n v s es is b)))

  pub array_shown : (t : Box ElementType Global) (x : ElementType) (old mid new : List Refusal) → e ≡ ArrayOf t v s → x ≡ t.value → mid ≡ old ++ element_refusals x.annotations.items x.base → new ≡ mid ++ refusals_of_all (placed_views es) → new ≡ old ++ refusals (placed_view e)
  array_shown t x old mid new is te g h =
      some_then old mid new (element_refusals t.value.annotations.items t.value.base) _ _ (ap refusals (seen_array_of e t v s es is b)) (g ∙ ap (λ (y : ElementType). old ++ element_refusals y.annotations.items y.base) te) h

pub seen_block : (e : Stmt) (v : Vec Stmt Global) (s : Span) (ss : List Stmt) → e ≡ Block v s → ss ≡ v.items → placed_statement e ≡ PlacedBlock (placed_statements ss) s
seen_block e v s ss is b = ap placed_statement is ∙ block_placed v s (PlacedBlock (placed_statements v.items) s) refl ∙ ap (λ x. PlacedBlock (placed_statements x) s) (sym b)

pub block_shown : (e : Stmt) (v : Vec Stmt Global) (s : Span) (ss : List Stmt) (old new : List Refusal) → e ≡ Block v s → ss ≡ v.items → new ≡ old ++ statements_refusals (placed_statements ss) → new ≡ old ++ statement_refusals (placed_statement e)
block_shown e v s ss old new is b g = g ∙ ap (λ m. old ++ m) (sym (ap statement_refusals (seen_block e v s ss is b)))
