-- With what a constructor begins, and what entering a body is.
use Rattle.std.proofs.Common.{◌≡◌, ◌<◌, ◌≤◌, ◌+◌, ℕ, suc, List, [], ◌∷◌, length, drop, get_or, true, false, ltb, Vec, Global, refl, sym, ap, arith, lt-ltb}
use Rattle.jn_trees.specs.declared.expression.Expr.{Expr}
use Rattle.jn_trees.specs.declared.statement.Stmt.{Stmt, ThisCall, SuperCall}
use Rattle.jn_base.specs.declared.place.Span.{Span}
use Rattle.jn_heap.specs.Values.{Value}
use Rattle.jn_lowering.specs.Scopes.{Scope}
use Rattle.jn_points.specs.declared.program.Program.{Program}
use Rattle.jn_places.specs.Placed.{PlacedStatements, NoPlacedStatements, MorePlacedStatements}
use Rattle.jn_places.specs.PlacedView.{placed_statement, placed_statements}
use Rattle.jn_meaning.specs.Bodies as spec
use Rattle.jn_meaning.specs.Expressions.{Caller}
use Rattle.jn_meaning.specs.Worlds.{World, then_do}
use Rattle.jn_tree_world.proofs.Binding.{spent_first}
use Rattle.jn_tree_world.specs.Outcomes.{spends}
use Rattle.jn_tree_run.specs.Beginning.{entered_in, framed_in}
use Rattle.jn_tree_run.specs.declared.calling.Run.{Run}

pub stated_none : (xs : List Stmt) → length xs ≤ 0 → placed_statements xs ≡ NoPlacedStatements
stated_none [] le = refl
stated_none (x ∷ xs) le = absurd (omega (arith, le))

pub stated_first : (xs : List Stmt) (x : Stmt) → 0 < length xs → x ≡ get_or xs 0 x → placed_statements xs ≡ MorePlacedStatements (placed_statement x) (placed_statements (drop 1 xs))
stated_first [] x lt is = absurd (omega (arith, lt))
stated_first (y ∷ ys) x lt is = ap (λ z. MorePlacedStatements (placed_statement z) (placed_statements ys)) (sym is)

-- what begins with neither `this(..)` nor `super(..)`
pub construction_other : (P : Program) (names : List (List ℕ)) (longest : ℕ) (call : Caller) (turns m : ℕ) (s : Scope) (x : Stmt) (rest : PlacedStatements) (w : World) → ((es : Vec Expr Global) (at : Span) → x ≡ ThisCall es at → ⊥) → ((es : Vec Expr Global) (at : Span) → x ≡ SuperCall es at → ⊥) →
    spec.construction P names longest call turns m s (MorePlacedStatements (placed_statement x) rest) w ≡ spec.unwritten_call P names longest call turns m s w
construction_other P names longest call turns m s (ThisCall es at) rest w h i = absurd (h es at refl)
construction_other P names longest call turns m s (SuperCall es at) rest w h i = absurd (i es at refl)
construction_other P names longest call turns m s x rest w h i = refl

-- a further frame that isn't one too many takes a unit of fuel
pub enters : (run : Run) (left frames method : ℕ) (vs : List Value) (w : World) → frames < run.deepest → entered_in run (suc left) frames method vs w ≡ then_do (spends w) (λ u v. framed_in run (entered_in run left (frames + 1)) left method vs v)
enters run left frames method vs w lt =
    let few : ltb frames run.deepest ≡ true = lt-ltb frames run.deepest lt in
    rw few (spent_first w (framed_in run (entered_in run left (frames + 1)) left method vs))
