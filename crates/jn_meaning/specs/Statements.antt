-- What a statement does: where it goes on, and the world after it (JLS 8, 14). A unit of fuel is spent each time a loop's condition has its value, and each time a `for` without condition goes back to its start.
use Rattle.std.specs.Prelude.{ℕ, zero, suc, ◌+◌, Bool, true, false, cond, ◌&&◌, List, [], ◌∷◌, Option, Some, None, pos}
use Rattle.jn_base.specs.declared.place.Row.{Row}
use Rattle.jn_base.specs.declared.place.Span.{Span}
use Rattle.jn_quals.specs.Qualifier.{Qualifier}
use Rattle.jn_trees.specs.declared.statement.LocalModifier.{LocalModifier}
use Rattle.jn_points.specs.declared.point.BaseType.{BaseType}
use Rattle.jn_points.specs.declared.point.Operator.TheVariants.{Add, Less}
use Rattle.jn_points.specs.declared.point.Literal.TheVariants.{Int as IntOf}
use Rattle.jn_points.specs.declared.program.Program.{Program}
use Rattle.jn_places.specs.Placed.{PlacedTree, PlacedTrees, NoPlacedTrees, MorePlacedTrees, PlacedTypeUse, PlacedDeclarator, PlacedLocal, PlacedInit, PlacedExpressions, PlacedDeclaration, PlacedStatement, PlacedStatements, PlacedBlock, PlacedEmpty, PlacedExpression, PlacedBreak, PlacedContinue, PlacedReturn, PlacedLocalStatement, PlacedIf, PlacedIfElse, PlacedWhile, PlacedDo, PlacedFor, PlacedForEach, PlacedThisCall, PlacedSuperCallStatement, NoPlacedStatements, MorePlacedStatements}
use Rattle.jn_lowering.specs.Scopes.{Scope}
use Rattle.jn_lowering.specs.Bases.{type_of_use}
use Rattle.jn_lowering.specs.Annotations.{base_rows}
use Rattle.jn_lowering.specs.Locals.{annotations_of, bound_of, declared, has_final, has_value, own_annotations, with_local as in_scope}
use Rattle.jn_heap.specs.Values.{Value}
use Rattle.jn_heap.specs.State.{prim_of, value_at}
use Rattle.jn_heap.specs.Steps.{binary_of, literal_value}
use Rattle.jn_meaning.specs.Worlds.{World, Result, Has, Stops, FuelOut, got, spent, then_do, truth_in}
use Rattle.jn_meaning.specs.Operations.{ElementPlace, LengthPlace, read_place, write_local}
use Rattle.jn_meaning.specs.Expressions.{Caller, meant, operand_span}

-- where a statement goes on: after itself, after the loop around it, to the loop's next turn, or out of the body with a value
pub data Flow : Type 0 where
  Onward : Flow
  Breaks : Flow
  Continues : Flow
  Returns : (value : Option Value) → Flow

-- the names in scope, and how many locals there are
pub record Standing : Type 0 where
  pub scope : Scope
  pub count : ℕ

-- the next local has a name (JLS 8, 6.3)
abbrev pub declares : Standing → ℕ → BaseType → Option Qualifier → Bool → List Row → Standing
declares st name base bound fixed faults = record { scope = in_scope st.scope (record { name = name; reg = st.count; base = base; bound = bound; fixed = fixed; faults = faults }); count = st.count + 1 }

-- after what goes on
abbrev pub onward : Flow → World → (World → Result Flow) → Result Flow
onward Onward w go = go w
onward flow w go = Has flow w

-- one after the other (JLS 8, 14.1)
abbrev pub in_turn : Result Flow → (World → Result Flow) → Result Flow
in_turn r go = then_do r (λ flow w. onward flow w go)

-- after the body of a loop: its next turn, or the end of the loop (JLS 8, 14.15 and 14.16)
abbrev pub turned : Flow → World → (World → Result Flow) → Result Flow
turned Onward w go = go w
turned Continues w go = go w
turned Breaks w go = Has Onward w
turned (Returns v) w go = Has (Returns v) w

-- where the condition holds the loop goes on
abbrev pub while_true : Bool → World → (World → Result Flow) → Result Flow
while_true true w go = go w
while_true false w go = Has Onward w

-- a condition, then the body and what follows it, and again (JLS 8, 14.12 and 14.14.1); the number of turns only bounds the recursion: it is never less than the fuel, which decides
abbrev pub repeated : ℕ → (World → Result Bool) → (World → Result Flow) → (World → Result Flow) → World → Result Flow
repeated zero test body update w = then_do (test w) (λ b w. Stops FuelOut w.out)
repeated (suc turns) test body update w =
    then_do (test w) (λ b w. spent w (λ w. while_true b w (λ w. then_do (body w) (λ flow w. turned flow w (λ w. in_turn (update w) (repeated turns test body update))))))

-- a `for` without condition (JLS 8, 14.14.1)
abbrev pub endless : ℕ → (World → Result Flow) → (World → Result Flow) → World → Result Flow
endless zero body update w = then_do (body w) (λ flow w. turned flow w (λ w. in_turn (update w) (λ w. Stops FuelOut w.out)))
endless (suc turns) body update w = then_do (body w) (λ flow w. turned flow w (λ w. in_turn (update w) (λ w. spent w (endless turns body update))))

-- the body, then a condition (JLS 8, 14.13)
abbrev pub done_while : ℕ → (World → Result Flow) → (World → Result Bool) → World → Result Flow
done_while zero body test w = then_do (body w) (λ flow w. turned flow w (λ w. then_do (test w) (λ b w. Stops FuelOut w.out)))
done_while (suc turns) body test w = then_do (body w) (λ flow w. turned flow w (λ w. then_do (test w) (λ b w. spent w (λ w. while_true b w (done_while turns body test)))))

-- the scope after a declared name (JLS 8, 6.3)
abbrev pub behind_declarator : BaseType → Option Qualifier → Bool → List Row → Standing → PlacedDeclarator → Standing
behind_declarator base bound is_final faults st d = declares st d.name.name.0 base bound (is_final && has_value d) faults

-- the scope after several names that one declaration declares, from left to right (JLS 8, 6.3)
abbrev pub behind_declarators : BaseType → Option Qualifier → Bool → List Row → Standing → List PlacedDeclarator → Standing
behind_declarators base bound is_final faults st [] = st
behind_declarators base bound is_final faults st (d ∷ ds) = behind_declarators base bound is_final faults (behind_declarator base bound is_final faults st d) ds

-- the bound that a declaration writes
abbrev pub bound_written : List LocalModifier → PlacedTypeUse → Option Qualifier
bound_written marks u = bound_of (own_annotations u.array (annotations_of marks))

-- with so many locals more
abbrev pub further : Standing → ℕ → Standing
further st n = record { scope = st.scope; count = st.count + n }

module _ (P : Program) where
  -- the type that a declaration writes
  abbrev pub type_written : List LocalModifier → PlacedTypeUse → BaseType
  type_written marks u = type_of_use P u (annotations_of marks)

  -- the scope after a local declaration: all its names are in it (JLS 8, 6.3)
  abbrev pub behind_declaration : Standing → PlacedLocal → Standing
  behind_declaration st l = behind_declarators (type_written l.marks l.type_use) (bound_written l.marks l.type_use) (has_final l.marks) (base_rows P l.type_use.base) st (l.first ∷ l.more)

  -- the scope after what a `for` begins with, in which its names may be declared (JLS 8, 14.14.1)
  abbrev pub behind_init : Standing → PlacedInit → Standing
  behind_init st (PlacedExpressions es) = st
  behind_init st (PlacedDeclaration l) = behind_declaration st l

  -- after a statement: a declaration's names stay in scope, other names don't
  abbrev pub behind : Standing → PlacedStatement → Standing
  behind st (PlacedLocalStatement l span) = behind_declaration st l
  behind st x = record { scope = st.scope; count = st.count + declared x }

-- what is done for its effect
abbrev pub then_onward : Result (Option Value) → Result Flow
then_onward r = then_do r (λ x w. Has Onward w)

module _ (P : Program) (names : List (List ℕ)) (longest : ℕ) (call : Caller) (turns : ℕ) (c : ℕ) where
  -- an expression's value, and whether it holds
  abbrev pub value_in : Standing → PlacedTree → World → Result (Option Value)
  value_in st e = (meant P names longest call c st.scope e).value

  -- whether an expression, as a condition, is true
  abbrev pub holds_in : Standing → PlacedTree → World → Result Bool
  holds_in st e = (meant P names longest call c st.scope e).condition

  -- an expression for its effects
  abbrev pub effect : Standing → PlacedTree → World → Result Flow
  effect st e w = then_onward (value_in st e w)

  -- several expressions for their effects, from left to right (JLS 8, 14.14.1)
  abbrev pub effects : Standing → PlacedTrees → World → Result Flow
  effects st NoPlacedTrees w = Has Onward w
  effects st (MorePlacedTrees e es) w = in_turn (effect st e w) (effects st es)

  -- `return` (JLS 8, 14.17)
  abbrev pub returned : Standing → Option PlacedTree → World → Result Flow
  returned st None w = Has (Returns None) w
  returned st (Some e) w = then_do (value_in st e w) (λ x w. Has (Returns x) w)

  -- a local's initializer
  abbrev pub initialized : Standing → ℕ → Option PlacedTree → World → Result Flow
  initialized st r None w = Has Onward w
  initialized st r (Some e) w = then_onward (then_do (value_in st e w) (λ x w. write_local P w r x))

  -- the locals of one declaration, from left to right: each is in scope in its own initializer (JLS 8, 14.4.2)
  abbrev pub declarators : BaseType → Option Qualifier → Bool → List Row → Standing → List PlacedDeclarator → World → Result Flow
  declarators base bound is_final faults st [] w = Has Onward w
  declarators base bound is_final faults st (d ∷ ds) w =
      let u : Standing = behind_declarator base bound is_final faults st d in
      in_turn (initialized u st.count d.value w) (declarators base bound is_final faults u ds)

  -- a local declaration (JLS 8, 14.4.2)
  abbrev pub declaration : Standing → PlacedLocal → World → Result Flow
  declaration st l = declarators (type_written P l.marks l.type_use) (bound_written l.marks l.type_use) (has_final l.marks) (base_rows P l.type_use.base) st (l.first ∷ l.more)

  -- what a `for` begins with (JLS 8, 14.14.1)
  abbrev pub begun : Standing → PlacedInit → World → Result Flow
  begun st (PlacedExpressions es) = effects st es
  begun st (PlacedDeclaration l) = declaration st l

  -- a `for` with or without condition
  abbrev pub for_loop : Standing → Option PlacedTree → (World → Result Flow) → (World → Result Flow) → World → Result Flow
  for_loop st None body update = endless turns body update
  for_loop st (Some q) body update = repeated turns (holds_in st q) body update

  -- a `for` over an array has two hidden locals, the array and the index (JLS 8, 14.14.2); `at` is the array's span

  -- the array, evaluated once
  abbrev pub each_array : Standing → PlacedTree → World → Result (Option Value)
  each_array st e w = then_do (value_in st e w) (λ x w. write_local P w st.count x)

  -- and index 0
  abbrev pub each_begun : Standing → PlacedTree → World → Result (Option Value)
  each_begun st e w = then_do (then_do (each_array st e w) (λ z w. Has (Some (literal_value names (IntOf (pos 0)))) w)) (λ z w. write_local P w (st.count + 1) z)

  -- the index is below the length
  abbrev pub each_below : Span → ℕ → World → Result (Option Value)
  each_below at r w = then_do (read_place P (LengthPlace (value_at w.locals r) at) at w) (λ n w. got at (binary_of Less (prim_of (value_at w.locals (r + 1))) (prim_of n)) w)

  -- whether a `for` over an array has an element left (JLS 8, 14.14.2)
  abbrev pub each_test : Span → ℕ → World → Result Bool
  each_test at r w = then_do (each_below at r w) truth_in

  -- the element at the index, in the variable
  abbrev pub each_element : Span → ℕ → World → Result (Option Value)
  each_element at r w = then_do (read_place P (ElementPlace (value_at w.locals r) at (value_at w.locals (r + 1))) at w) (λ x w. write_local P w (r + 2) x)

  -- the next index
  abbrev pub each_next : Span → ℕ → World → Result (Option Value)
  each_next at r w = then_do (got at (binary_of Add (prim_of (value_at w.locals (r + 1))) (prim_of (Some (literal_value names (IntOf (pos 1)))))) w) (λ z w. write_local P w (r + 1) z)

  abbrev mutual
    -- a statement, carried out (JLS 8, 14)
    pub executed : Standing → PlacedStatement → World → Result Flow
    -- a block (JLS 8, 14.2), the empty statement (JLS 8, 14.6) and an expression (JLS 8, 14.8)
    executed st (PlacedBlock body span) w = all_executed st body w
    executed st (PlacedEmpty span) w = Has Onward w
    executed st (PlacedExpression e span) w = effect st e w
    -- JLS 8, 14.15 to 14.17
    executed st (PlacedBreak span) w = Has Breaks w
    executed st (PlacedContinue span) w = Has Continues w
    executed st (PlacedReturn value span) w = returned st value w
    -- a declaration (JLS 8, 14.4.2)
    executed st (PlacedLocalStatement l span) w = declaration st l w
    -- `if` without and with `else` (JLS 8, 14.9)
    executed st (PlacedIf q body span) w = then_do (holds_in st q w) (λ b w. cond b (executed st body w) (Has Onward w))
    executed st (PlacedIfElse q body other span) w = then_do (holds_in st q w) (λ b w. cond b (executed st body w) (executed (behind P st body) other w))
    -- JLS 8, 14.12
    executed st (PlacedWhile q body span) w = repeated turns (holds_in st q) (executed st body) (λ w. Has Onward w) w
    -- JLS 8, 14.13
    executed st (PlacedDo body q span) w = done_while turns (executed st body) (holds_in (behind P st body) q) w
    -- JLS 8, 14.14.1
    executed st (PlacedFor start q update body span) w =
        let u : Standing = behind_init P st start in
        in_turn (begun st start w) (for_loop u q (executed u body) (effects (behind P u body) update))
    -- JLS 8, 14.14.2
    executed st (PlacedForEach marks u name array body span) w =
        let at : Span = operand_span array in
        let v : Standing = declares (further st 2) name.name.0 (type_written P marks u) (bound_written marks u) (has_final marks) (base_rows P u.base) in
        then_do (each_begun st array w) (λ z w. repeated turns (each_test at st.count) (λ w. then_do (each_element at st.count w) (λ x w. executed v body w)) (λ w. then_onward (each_next at st.count w)) w)
    -- a constructor's call is done where its body begins (JLS 8, 8.8.7.1)
    executed st (PlacedThisCall es span) w = Has Onward w
    executed st (PlacedSuperCallStatement es span) w = Has Onward w

    -- statements one after the other (JLS 8, 14.2)
    pub all_executed : Standing → PlacedStatements → World → Result Flow
    all_executed st NoPlacedStatements w = Has Onward w
    all_executed st (MorePlacedStatements x xs) w = in_turn (executed st x w) (all_executed (behind P st x) xs)
