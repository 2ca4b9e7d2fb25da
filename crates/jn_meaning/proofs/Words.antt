-- A worked program with fields, constructors, calls on objects and loops, by computation: a stack that prints its words from the last to the first.
use Rattle.std.specs.Prelude.{ℕ, ◌≡◌, true, false, List, [], ◌∷◌, Some, None, pos}
use Rattle.std.proofs.Common.{refl}
use Rattle.jn_trees.specs.declared.expression.Base.TheVariants.{Class as ClassUse}
use Rattle.jn_trees.specs.declared.expression.Literal.TheVariants.{Null as NullLiteral}
use Rattle.jn_trees.specs.declared.expression.Step.TheVariants.{Increment, Decrement}
use Rattle.jn_trees.specs.declared.expression.BinaryOperator.TheVariants.{Equal, NotEqual}
use Rattle.jn_trees.specs.declared.expression.AssignOperator.TheVariants.{Assign}
use Rattle.jn_points.specs.declared.point.BaseType.TheVariants.{Int, Void, Ref, Array}
use Rattle.jn_points.specs.declared.point.Elem.TheVariants.{Ref as RefElem}
use Rattle.jn_points.specs.declared.program.Program.{Program}
use Rattle.jn_places.specs.Placed.{NoPlacedTrees, MorePlacedTrees, PlacedLiteral, PlacedName, PlacedThis, PlacedField, PlacedCall, PlacedNew, PlacedPostfix, PlacedBinary, PlacedAssign, PlacedExpression, PlacedReturn, PlacedLocalStatement, PlacedIf, PlacedWhile, PlacedForEach, PlacedBlock, PlacedStatements, NoPlacedStatements, MorePlacedStatements}
use Rattle.jn_lowering.specs.Bodies.{Source}
use Rattle.jn_lowering.specs.BodyRows.{rows_of_bodies}
use Rattle.jn_heap.specs.Values.{Limits, usual_limits}
use Rattle.jn_meaning.specs.Bodies.{Deep, Out, Returned, tree}
use Rattle.jn_meaning.proofs.Rows.{at, id}

abbrev stack : Program
stack = record {
  classes =
      record { name = record { 0 = 6 }; span = at 0 0; interface = false; is_abstract = false; is_final = false; parent = None; supers = [] } ∷
      record { name = record { 0 = 0 }; span = at 0 0; interface = false; is_abstract = false; is_final = true; parent = Some (record { 0 = 0 }); supers = (record { 0 = 0 }) ∷ [] } ∷
      record { name = record { 0 = 25 }; span = at 0 0; interface = false; is_abstract = false; is_final = false; parent = Some (record { 0 = 0 }); supers = (record { 0 = 0 }) ∷ [] } ∷
      record { name = record { 0 = 37 }; span = at 0 0; interface = false; is_abstract = false; is_final = false; parent = Some (record { 0 = 0 }); supers = (record { 0 = 0 }) ∷ [] } ∷ [];
  fields =
      record { name = record { 0 = 26 }; span = at 0 0; owner = record { 0 = 2 }; base = Ref (record { 0 = 3 }); is_static = false; is_final = false; is_private = false; is_monotonic = false; first = pos 0; slot = None } ∷
      record { name = record { 0 = 27 }; span = at 0 0; owner = record { 0 = 2 }; base = Int; is_static = false; is_final = false; is_private = false; is_monotonic = false; first = pos 0; slot = None } ∷
      record { name = record { 0 = 29 }; span = at 0 0; owner = record { 0 = 3 }; base = Ref (record { 0 = 1 }); is_static = false; is_final = false; is_private = false; is_monotonic = false; first = pos 0; slot = None } ∷
      record { name = record { 0 = 32 }; span = at 0 0; owner = record { 0 = 3 }; base = Ref (record { 0 = 3 }); is_static = false; is_final = false; is_private = false; is_monotonic = false; first = pos 0; slot = None } ∷ [];
  methods =
      record { name = record { 0 = 6 }; span = at 0 1; owner = record { 0 = 0 }; params = []; param_spans = []; result = Void; ctor = true; is_static = false; is_private = false; is_abstract = false; is_final = false; is_main = false; body = Some (record { 0 = 0 }); receiver = None; param_slots = []; result_slot = None } ∷
      record { name = record { 0 = 28 }; span = at 301 302; owner = record { 0 = 2 }; params = Ref (record { 0 = 1 }) ∷ []; param_spans = at 38 39 ∷ []; result = Void; ctor = false; is_static = false; is_private = false; is_abstract = false; is_final = false; is_main = false; body = Some (record { 0 = 1 }); receiver = None; param_slots = None ∷ []; result_slot = None } ∷
      record { name = record { 0 = 30 }; span = at 302 303; owner = record { 0 = 2 }; params = []; param_spans = []; result = Ref (record { 0 = 1 }); ctor = false; is_static = false; is_private = false; is_abstract = false; is_final = false; is_main = false; body = Some (record { 0 = 2 }); receiver = None; param_slots = []; result_slot = None } ∷
      record { name = record { 0 = 5 }; span = at 303 304; owner = record { 0 = 2 }; params = Array (RefElem (record { 0 = 1 })) false ∷ []; param_spans = at 38 39 ∷ []; result = Void; ctor = false; is_static = true; is_private = false; is_abstract = false; is_final = false; is_main = false; body = Some (record { 0 = 3 }); receiver = None; param_slots = None ∷ []; result_slot = None } ∷
      record { name = record { 0 = 25 }; span = at 304 305; owner = record { 0 = 2 }; params = []; param_spans = []; result = Void; ctor = true; is_static = false; is_private = false; is_abstract = false; is_final = false; is_main = false; body = Some (record { 0 = 4 }); receiver = None; param_slots = []; result_slot = None } ∷
      record { name = record { 0 = 37 }; span = at 305 306; owner = record { 0 = 3 }; params = Ref (record { 0 = 1 }) ∷ Ref (record { 0 = 3 }) ∷ []; param_spans = at 38 39 ∷ at 38 39 ∷ []; result = Void; ctor = true; is_static = false; is_private = false; is_abstract = false; is_final = false; is_main = false; body = Some (record { 0 = 5 }); receiver = None; param_slots = None ∷ None ∷ []; result_slot = None } ∷ [];
  bodies = [];
  slots = [];
}

-- top = new Cell(text, top); size++;
abbrev push_body : PlacedStatements
push_body = (MorePlacedStatements (PlacedExpression (PlacedAssign (PlacedName (id 26 0 1)) Assign (PlacedNew (id 37 0 1) (MorePlacedTrees (PlacedName (id 29 0 1)) (MorePlacedTrees (PlacedName (id 26 0 1)) NoPlacedTrees)) (at 1 2)) (at 2 3)) (at 3 4))
    (MorePlacedStatements (PlacedExpression (PlacedPostfix (PlacedName (id 27 3 4)) Increment (at 4 5)) (at 5 6))
    NoPlacedStatements))

-- Cell c = top; if (c == null) return null; top = c.below; size--; return c.text;
abbrev pop_body : PlacedStatements
pop_body = (MorePlacedStatements (PlacedLocalStatement (record { marks = []; type_use = (record { base = ClassUse (id 37 5 6); array = None; span = at 0 0 }); first = record { name = (id 31 5 6); value = Some (PlacedName (id 26 5 6)) }; more = [] }) (at 6 7))
    (MorePlacedStatements (PlacedIf (PlacedBinary (PlacedName (id 31 6 7)) Equal (PlacedLiteral NullLiteral (at 0 0)) (at 7 8)) (PlacedReturn (Some (PlacedLiteral NullLiteral (at 0 0))) (at 8 9)) (at 9 10))
    (MorePlacedStatements (PlacedExpression (PlacedAssign (PlacedName (id 26 9 10)) Assign (PlacedField (PlacedName (id 31 9 10)) (id 32 9 10) (at 10 11)) (at 11 12)) (at 12 13))
    (MorePlacedStatements (PlacedExpression (PlacedPostfix (PlacedName (id 27 12 13)) Decrement (at 13 14)) (at 14 15))
    (MorePlacedStatements (PlacedReturn (Some (PlacedField (PlacedName (id 31 14 15)) (id 29 14 15) (at 15 16))) (at 16 17))
    NoPlacedStatements)))))

-- Stack s = new Stack(); for (String a : args) s.push(a); String t = s.pop(); while (t != null) { System.out.println(t); t = s.pop(); }
abbrev main_body : PlacedStatements
main_body = (MorePlacedStatements (PlacedLocalStatement (record { marks = []; type_use = (record { base = ClassUse (id 25 17 18); array = None; span = at 0 0 }); first = record { name = (id 34 17 18); value = Some (PlacedNew (id 25 16 17) NoPlacedTrees (at 17 18)) }; more = [] }) (at 18 19))
    (MorePlacedStatements (PlacedForEach [] (record { base = ClassUse (id 0 18 19); array = None; span = at 0 0 }) (id 35 18 19) (PlacedName (id 33 18 19)) (PlacedExpression (PlacedCall (PlacedName (id 34 18 19)) (id 28 18 19) (MorePlacedTrees (PlacedName (id 35 18 19)) NoPlacedTrees) (at 19 20)) (at 20 21)) (at 21 22))
    (MorePlacedStatements (PlacedLocalStatement (record { marks = []; type_use = (record { base = ClassUse (id 0 22 23); array = None; span = at 0 0 }); first = record { name = (id 36 22 23); value = Some (PlacedCall (PlacedName (id 34 21 22)) (id 30 21 22) NoPlacedTrees (at 22 23)) }; more = [] }) (at 23 24))
    (MorePlacedStatements (PlacedWhile (PlacedBinary (PlacedName (id 36 23 24)) NotEqual (PlacedLiteral NullLiteral (at 0 0)) (at 24 25)) (PlacedBlock (MorePlacedStatements (PlacedExpression (PlacedCall (PlacedField (PlacedName (id 1 24 25)) (id 2 24 25) (at 25 26)) (id 3 25 26) (MorePlacedTrees (PlacedName (id 36 25 26)) NoPlacedTrees) (at 26 27)) (at 27 28))
    (MorePlacedStatements (PlacedExpression (PlacedAssign (PlacedName (id 36 27 28)) Assign (PlacedCall (PlacedName (id 34 27 28)) (id 30 27 28) NoPlacedTrees (at 28 29)) (at 29 30)) (at 30 31))
    NoPlacedStatements)) (at 31 32)) (at 32 33))
    NoPlacedStatements))))

-- this.text = text; this.below = below;
abbrev cell_body : PlacedStatements
cell_body = (MorePlacedStatements (PlacedExpression (PlacedAssign (PlacedField (PlacedThis (at 0 0)) (id 29 32 33) (at 33 34)) Assign (PlacedName (id 29 33 34)) (at 34 35)) (at 35 36))
    (MorePlacedStatements (PlacedExpression (PlacedAssign (PlacedField (PlacedThis (at 0 0)) (id 32 35 36) (at 36 37)) Assign (PlacedName (id 32 36 37)) (at 37 38)) (at 38 39))
    NoPlacedStatements))

abbrev sources : List Source
sources =
    record { method = 0; parameters = []; body = NoPlacedStatements; members = [] } ∷
    record { method = 1; parameters = record { marks = []; type_use = record { base = ClassUse (id 0 38 39); array = None; span = at 0 0 }; name = (id 29 38 39) } ∷ []; body = push_body; members = [] } ∷
    record { method = 2; parameters = []; body = pop_body; members = [] } ∷
    record { method = 3; parameters = record { marks = []; type_use = record { base = ClassUse (id 0 38 39); array = Some []; span = at 0 0 }; name = (id 33 38 39) } ∷ []; body = main_body; members = [] } ∷
    record { method = 4; parameters = []; body = NoPlacedStatements; members = [] } ∷
    record { method = 5; parameters = record { marks = []; type_use = record { base = ClassUse (id 0 38 39); array = None; span = at 0 0 }; name = (id 29 38 39) } ∷ record { marks = []; type_use = record { base = ClassUse (id 37 38 39); array = None; span = at 0 0 }; name = (id 32 38 39) } ∷ []; body = cell_body; members = [] } ∷ []

-- c, b, a
prints_words : tree stack sources [] usual_limits 3 ((97 ∷ []) ∷ (98 ∷ []) ∷ (99 ∷ []) ∷ []) 1000 ≡ record { end = Returned; text = 99 ∷ 10 ∷ 98 ∷ 10 ∷ 97 ∷ 10 ∷ [] }
prints_words = refl

-- main, `new Stack()`, four conditions, three calls of push with a constructor each, four of pop, and four conditions: twenty units
takes_twenty : tree stack sources [] usual_limits 3 ((97 ∷ []) ∷ (98 ∷ []) ∷ (99 ∷ []) ∷ []) 20 ≡ record { end = Returned; text = 99 ∷ 10 ∷ 98 ∷ 10 ∷ 97 ∷ 10 ∷ [] }
takes_twenty = refl

-- the last condition has no unit
nineteen_are_few : tree stack sources [] usual_limits 3 ((97 ∷ []) ∷ (98 ∷ []) ∷ (99 ∷ []) ∷ []) 19 ≡ record { end = Out; text = 99 ∷ 10 ∷ 98 ∷ 10 ∷ 97 ∷ 10 ∷ [] }
nineteen_are_few = refl

-- main calls push, which calls a constructor: three frames, of which two are too few
abbrev frames : ℕ → Limits
frames deepest = record { deepest = deepest; longest = usual_limits.longest }

three_are_enough : tree stack sources [] (frames 3) 3 ((97 ∷ []) ∷ []) 1000 ≡ record { end = Returned; text = 97 ∷ 10 ∷ [] }
three_are_enough = refl

two_are_few : tree stack sources [] (frames 2) 3 ((97 ∷ []) ∷ []) 1000 ≡ record { end = Deep; text = [] }
two_are_few = refl

-- no row stands in it
no_rows : rows_of_bodies stack sources ≡ []
no_rows = refl
