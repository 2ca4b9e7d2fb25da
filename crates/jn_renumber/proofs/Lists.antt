-- Loops that renumber a list's items in turn: those before an index are renumbered, and those from it on are as they were.
use Rattle.std.proofs.Common.{◌≡◌, ℕ, ◌+◌, ◌<◌, ◌≤◌, List, [], ◌∷◌, ◌++◌, length, take, drop, get_or, map, refl, sym, ap, ◌∙◌, append_assoc, append-nil, arith}
use Rattle.std.proofs.Math.ListN.{set, drop_of_length-le, take-append-drop, length-set}
use Rattle.std.proofs.lemmas.List.{take_more_set, map-append}
use Rattle.jn_base.specs.declared.number.NameNo.{NameNo}
use Rattle.jn_trees.specs.declared.expression.Expr.{Expr}
use Rattle.jn_trees.specs.declared.statement.Stmt.{Stmt}
use Rattle.jn_places.specs.Placed.{PlacedTrees, MorePlacedTrees, NoPlacedTrees, PlacedStatements, MorePlacedStatements, NoPlacedStatements}
use Rattle.jn_places.specs.PlacedView.{placed_view, placed_views, placed_statement, placed_statements}
use Rattle.jn_places.proofs.Lists.{left_at}
use Rattle.jn_renumber.specs.Renumbered.{renumbered, renumbered_list, renumbered_statement, renumbered_statements}

take_all : {X : Type 0} (xs : List X) (i : ℕ) → length xs ≤ i → take i xs ≡ xs
take_all xs i le = sym (append-nil (take i xs)) ∙ ap (λ r. take i xs ++ r) (sym (drop_of_length-le xs le)) ∙ take-append-drop i xs

-- a list of items that are as they lie in memory
module _ {X : Type 0} (change : X → X) where
  -- the list was this one
  abbrev pub Changing : List X → List X → ℕ → Type 0
  Changing old xs i = (length xs ≡ length old) × (take i xs ++ map change (drop i xs) ≡ map change old)

  pub one_changed : (old xs : List X) (i : ℕ) (x y : X) → i < length xs → x ≡ get_or xs i x → y ≡ change x → Changing old xs i → Changing old (set xs i y) (i + 1)
  one_changed old xs i x y lt is e g =
      (length-set xs i y ∙ g.0, rw (take_more_set xs i y lt, append_assoc) (ap (λ z. take i xs ++ z ∷ map change (drop (i + 1) (set xs i y))) e ∙ (rw (left_at xs i x y lt is) at g.1)))

  pub each_changed : (old xs : List X) (i : ℕ) → length old ≤ i → Changing old xs i → xs ≡ map change old
  each_changed old xs i le g =
      let short : length xs ≤ i = omega arith in
      let all = rw (drop_of_length-le xs short, append-nil) at g.1 in
      rw (take_all xs i short) at all

-- a list of items that are seen with their places
module _ {X B : Type 0} (placed : X → B) (change : B → B) where
  abbrev pub Renumbering : List X → List X → ℕ → Type 0
  Renumbering old xs i = (length xs ≡ length old) × (map placed (take i xs) ++ map change (map placed (drop i xs)) ≡ map change (map placed old))

  pub one_renumbered : (old xs : List X) (i : ℕ) (x y : X) → i < length xs → x ≡ get_or xs i x → placed y ≡ change (placed x) → Renumbering old xs i → Renumbering old (set xs i y) (i + 1)
  one_renumbered old xs i x y lt is e g =
      (length-set xs i y ∙ g.0, rw (take_more_set xs i y lt, map-append, append_assoc, e) (rw (left_at xs i x y lt is) at g.1))

  pub each_renumbered : (old xs : List X) (i : ℕ) → length old ≤ i → Renumbering old xs i → map placed xs ≡ map change (map placed old)
  each_renumbered old xs i le g =
      let short : length xs ≤ i = omega arith in
      let all = rw (drop_of_length-le xs short, append-nil) at g.1 in
      rw (take_all xs i short) at all

-- expressions
abbrev pub placed_before : List Expr → PlacedTrees → PlacedTrees
placed_before [] ps = ps
placed_before (e ∷ es) ps = MorePlacedTrees (placed_view e) (placed_before es ps)

before_append : (es : List Expr) (e : Expr) (ps : PlacedTrees) → placed_before (es ++ e ∷ []) ps ≡ placed_before es (MorePlacedTrees (placed_view e) ps)
before_append [] e ps = refl
before_append (x ∷ es) e ps = ap (λ r. MorePlacedTrees (placed_view x) r) (before_append es e ps)

before_none : (es : List Expr) → placed_before es NoPlacedTrees ≡ placed_views es
before_none [] = refl
before_none (x ∷ es) = ap (λ r. MorePlacedTrees (placed_view x) r) (before_none es)

-- where the whole list is to be this one
abbrev pub Going : List NameNo → PlacedTrees → List Expr → ℕ → Type 0
Going ns whole es i = placed_before (take i es) (renumbered_list ns (placed_views (drop i es))) ≡ whole

pub one_more : (ns : List NameNo) (whole : PlacedTrees) (es : List Expr) (i : ℕ) (e f : Expr) → i < length es → e ≡ get_or es i e → placed_view f ≡ renumbered ns (placed_view e) → Going ns whole es i → Going ns whole (set es i f) (i + 1)
one_more ns whole es i e f lt is p g =
    rw (take_more_set es i f lt, before_append, p) (rw (left_at es i e f lt is) at g)

pub all_renumbered : (ns : List NameNo) (whole : PlacedTrees) (es : List Expr) (i : ℕ) → length es ≤ i → Going ns whole es i → placed_views es ≡ whole
all_renumbered ns whole es i le g =
    sym (before_none es) ∙ ap (λ xs. placed_before xs NoPlacedTrees) (sym (take_all es i le)) ∙ (rw (drop_of_length-le es le) at g)

-- statements
abbrev pub statements_before : List Stmt → PlacedStatements → PlacedStatements
statements_before [] ps = ps
statements_before (s ∷ ss) ps = MorePlacedStatements (placed_statement s) (statements_before ss ps)

statements_append : (ss : List Stmt) (s : Stmt) (ps : PlacedStatements) → statements_before (ss ++ s ∷ []) ps ≡ statements_before ss (MorePlacedStatements (placed_statement s) ps)
statements_append [] s ps = refl
statements_append (x ∷ ss) s ps = ap (λ r. MorePlacedStatements (placed_statement x) r) (statements_append ss s ps)

statements_none : (ss : List Stmt) → statements_before ss NoPlacedStatements ≡ placed_statements ss
statements_none [] = refl
statements_none (x ∷ ss) = ap (λ r. MorePlacedStatements (placed_statement x) r) (statements_none ss)

abbrev pub GoingOn : List NameNo → PlacedStatements → List Stmt → ℕ → Type 0
GoingOn ns whole ss i = statements_before (take i ss) (renumbered_statements ns (placed_statements (drop i ss))) ≡ whole

pub one_statement_more : (ns : List NameNo) (whole : PlacedStatements) (ss : List Stmt) (i : ℕ) (s u : Stmt) → i < length ss → s ≡ get_or ss i s → placed_statement u ≡ renumbered_statement ns (placed_statement s) → GoingOn ns whole ss i → GoingOn ns whole (set ss i u) (i + 1)
one_statement_more ns whole ss i s u lt is p g =
    rw (take_more_set ss i u lt, statements_append, p) (rw (left_at ss i s u lt is) at g)

pub all_statements : (ns : List NameNo) (whole : PlacedStatements) (ss : List Stmt) (i : ℕ) → length ss ≤ i → GoingOn ns whole ss i → placed_statements ss ≡ whole
all_statements ns whole ss i le g =
    sym (statements_none ss) ∙ ap (λ xs. statements_before xs NoPlacedStatements) (sym (take_all ss i le)) ∙ (rw (drop_of_length-le ss le) at g)
