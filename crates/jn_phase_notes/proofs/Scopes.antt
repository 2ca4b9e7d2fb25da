-- Names stay in scope until they are taken back.
use Rattle.std.proofs.Common.{◌≡◌, ◌<◌, ◌+◌, ℕ, List, [], ◌∷◌, ◌++◌, length, take, drop, get_or, Box, Vec, Global, Option, Some, None, sym, ap, ◌∙◌, append_assoc, append-nil}
use Rattle.std.proofs.Math.Seq.{take-append_seam}
use Rattle.std.proofs.lemmas.List.{drop_more}
use Rattle.jn_base.specs.declared.place.Span.{Span}
use Rattle.jn_trees.specs.declared.expression.Identifier.{Identifier}
use Rattle.jn_trees.specs.declared.statement.ForHead.{ForHead}
use Rattle.jn_trees.specs.declared.statement.Stmt.{Stmt}
use Rattle.jn_trees.specs.declared.statement.Stmt.TheVariants.{Block, For}
use Rattle.jn_places.specs.PlacedView.{placed_statement, placed_statements}
use Rattle.jn_phase_notes.specs.declared.repeated.Second.{Second}
use Rattle.jn_refused_notes.proofs.Shown.{seen_block}
use Rattle.jn_phase_notes.specs.Earlier.{added, all_seconds, names_behind, seconds, standing, with_name, with_names}

-- the names begin with those
pub record Begins (front names : List Identifier) : Type 0 where
  pub more : List Identifier
  pub is : names ≡ front ++ more

pub begins_self : (names : List Identifier) → Begins names names
begins_self names = record { more = []; is = sym (append-nil names) }

pub begins_same : (front names same : List Identifier) → same ≡ names → Begins front names → Begins front same
begins_same front names same e b = record { more = b.more; is = e ∙ b.is }

begins_added : (front names : List Identifier) (x : Identifier) (o : Option Identifier) → Begins front names → Begins front (added names x o)
begins_added front names x None b = record { more = b.more ++ x ∷ []; is = ap (λ n. n ++ x ∷ []) b.is ∙ append_assoc front b.more (x ∷ []) }
begins_added front names x (Some y) b = b

pub begins_more : (front names xs : List Identifier) → Begins front names → Begins front (with_names names xs)
begins_more front names [] b = b
begins_more front names (x ∷ xs) b = begins_more front (with_name names x) xs (begins_added front names x (standing names x.name.0) b)

pub taken_back : (front names : List Identifier) → Begins front names → take (length front) names ≡ front
taken_back front names b = ap (take (length front)) b.is ∙ take-append_seam front b.more

pub back_again : (front names new same : List Identifier) (n : ℕ) → new ≡ take n same → n ≡ length front → same ≡ names → Begins front names → new ≡ front
back_again front names new same n e c s b = e ∙ ap (λ k. take k same) c ∙ ap (take (length front)) s ∙ taken_back front names b

pub block_seconds : (scope : List Identifier) (e : Stmt) (v : Vec Stmt Global) (s : Span) (ss : List Stmt) (old new : List Second) → e ≡ Block v s → ss ≡ v.items → new ≡ old ++ all_seconds scope (placed_statements ss) → new ≡ old ++ seconds scope (placed_statement e)
block_seconds scope e v s ss old new is b g = g ∙ ap (λ m. old ++ m) (sym (ap (seconds scope) (seen_block e v s ss is b)))

pub for_scope : (scope new : List Identifier) (e : Stmt) (q : Box ForHead Global) (p : Box Stmt Global) (s : Span) → e ≡ For q p s → new ≡ scope → new ≡ with_names scope (names_behind (placed_statement e))
for_scope scope new e q p s is h = h ∙ ap (λ x. with_names scope (names_behind (placed_statement x))) (sym is)

pub next_seconds : (trees : List Stmt) (i : ℕ) (e : Stmt) (scope after : List Identifier) (old new whole : List Second) → i < length trees → e ≡ get_or trees i e → after ≡ with_names scope (names_behind (placed_statement e)) → new ≡ old ++ seconds scope (placed_statement e) → old ++ all_seconds scope (placed_statements (drop i trees)) ≡ whole → new ++ all_seconds after (placed_statements (drop (i + 1) trees)) ≡ whole
next_seconds trees i e scope after old new whole lt is se fe h =
    ap (λ f. f ++ all_seconds after (placed_statements (drop (i + 1) trees))) fe
    ∙ ap (λ s. (old ++ seconds scope (placed_statement e)) ++ all_seconds s (placed_statements (drop (i + 1) trees))) se
    ∙ append_assoc old (seconds scope (placed_statement e)) (all_seconds (with_names scope (names_behind (placed_statement e))) (placed_statements (drop (i + 1) trees)))
    ∙ sym (ap (λ ts. old ++ all_seconds scope (placed_statements ts)) (drop_more trees i e lt ∙ ap (λ y. y ∷ drop (i + 1) trees) (sym is)))
    ∙ h
