-- Calls, creations, conditions and assignments without places.
use Rattle.std.proofs.Common.{◌≡◌, ℕ, ◌+◌, Bool, true, false, cond, not, ◌&&◌, List, [], ◌∷◌, Option, Some, None, refl, sym, ap, ◌∙◌}
use Rattle.jn_base.specs.declared.place.Span.{Span}
use Rattle.jn_trees.specs.declared.expression.Literal.{Literal}
use Rattle.jn_trees.specs.declared.expression.Literal.TheVariants.{Number, Str as Text, True, False, Null as NullLiteral}
use Rattle.jn_trees.specs.declared.expression.Step.{Step}
use Rattle.std.specs.Prelude.{pos}
use Rattle.jn_points.specs.declared.point.BaseType.{BaseType}
use Rattle.jn_points.specs.declared.point.BaseType.TheVariants.{Int}
use Rattle.jn_points.specs.declared.point.Literal.TheVariants.{Int as IntOf}
use Rattle.jn_points.specs.declared.point.Operand.{Operand}
use Rattle.jn_points.specs.declared.point.Operator.{Operator}
use Rattle.jn_points.specs.declared.point.Origin.{Origin}
use Rattle.jn_points.specs.declared.point.PointKind.TheVariants.{Const, Move, Binary, New, Call, StrOp, TestInst}
use Rattle.jn_points.specs.declared.program.Program.{Program}
use Rattle.jn_points.specs.BaseRows.{is_void}
use Rattle.jn_points.specs.Lookup.{method_at, private_of, result_base_of, static_of}
use Rattle.jn_points.specs.Regular.{operation_base}
use Rattle.jn_lowering.specs.Fragments.{Fragment, Piece, nothing, does, asks, goes, Part, First, Second, to, plain, then}
use Rattle.jn_lowering.specs.Temporaries.{Temporaries}
use Rattle.jn_lowering.specs.Scopes.{Meaning, LocalMeant, FieldMeant, ClassMeant, SystemMeant, NothingMeant, Access, ClassField, ObjectField, ArrayLength, NoField, Callee, Println, OfText, ClassMethod, ObjectMethod, NoMethod}
use Rattle.jn_lowering.specs.Bases.{ref}
use Rattle.jn_lowering.specs.Forms.{Value, Condition, Spot, LocalSpot, StaticSpot, FieldSpot, ElementSpot, LengthSpot, NoSpot, register, operand, step_operator, null_test, gives, void, write, combined}
use Rattle.jn_lowering.specs.Calls.{Operands, method_no, class_no, first_of_operands, with_operand, and_also, or_else, negated, null_tested, instance_tested, literal_condition, this_operand, own_field, is_static, name_spot, access_place, called, println_of, dotted_call, own_receiver, own_call, super_call, created, chosen, assigned_operand, simply_assigned, written, compound, one, stepped, prefixed, old_value, with_result, postfixed}
use Rattle.jn_places_law.specs.Bare.{bare, bare_operand, bare_operands, bare_optional, no_span}
use Rattle.jn_places_law.specs.Erased.{bare_fragment, bare_meaning, bare_value, bare_condition, bare_spot, bare_located, bare_row}
use Rattle.jn_places_law.proofs.Forms.{pushed, a_value, parts_bare, then_bare, as_valued, as_tested, branch_bare, gives_bare, write_bare, combined_bare}
use Rattle.jn_places_law.proofs.Meanings.{result_is, private_is, static_method_is, static_is}

abbrev pub a_row : Fragment → List Operand → Temporaries → Operands
a_row f os t = record { fragment = f; values = os; behind = t }

pub with_bare : (v : Value) (vs : Operands) → bare_row (with_operand v vs) ≡ with_operand (bare_value v) (bare_row vs)
with_bare v vs = ap (λ f. a_row f (bare_operand v.operand ∷ bare_operands vs.values) vs.behind) (then_bare v.fragment vs.fragment)

first_bare : (vs : List Operand) → bare_optional (first_of_operands vs) ≡ first_of_operands (bare_operands vs)
first_bare [] = refl
first_bare (v ∷ vs) = refl

pub and_bare : (p q : Condition) → bare_condition (and_also p q) ≡ and_also (bare_condition p) (bare_condition q)
and_bare p q = as_tested q.behind (parts_bare (to p.fragment (Part 1) Second ∷ to q.fragment First Second ∷ []))

pub or_bare : (p q : Condition) → bare_condition (or_else p q) ≡ or_else (bare_condition p) (bare_condition q)
or_bare p q = as_tested q.behind (parts_bare (to p.fragment First (Part 1) ∷ to q.fragment First Second ∷ []))

pub not_bare : (q : Condition) → bare_condition (negated q) ≡ negated (bare_condition q)
not_bare q = refl

pub null_tested_bare : (b : Bool) (origin : Option Origin) (span : Span) (v : Value) → bare_condition (null_tested b origin span v) ≡ null_tested b origin no_span (bare_value v)
null_tested_bare true origin span v = as_tested v.behind (then_bare v.fragment (asks span (null_test true v.operand origin)))
null_tested_bare false origin span v = as_tested v.behind (then_bare v.fragment (asks span (null_test false v.operand origin)))

pub instance_bare : (k : ℕ) (origin : Option Origin) (span : Span) (v : Value) → bare_condition (instance_tested k origin span v) ≡ instance_tested k origin no_span (bare_value v)
instance_bare k origin span v = as_tested v.behind (then_bare v.fragment (asks span (λ first second. TestInst v.operand (class_no k) origin first second)))

pub literal_bare : (l : Literal) (span : Span) (t : Temporaries) (v : Value) → bare_condition (literal_condition l span t v) ≡ literal_condition l no_span t (bare_value v)
literal_bare True span t v = refl
literal_bare False span t v = refl
literal_bare (Number n) span t v = branch_bare v
literal_bare (Text n) span t v = branch_bare v
literal_bare NullLiteral span t v = branch_bare v

module _ (P : Program) where
  own_field_bare : (b : Bool) (f : ℕ) (span : Span) → bare_spot (own_field P b f span) ≡ own_field (bare P) b f no_span
  own_field_bare true f span = refl
  own_field_bare false f span = refl

  pub name_spot_bare : (m : Meaning) (span : Span) → bare_spot (name_spot P m span) ≡ name_spot (bare P) (bare_meaning m) no_span
  name_spot_bare (LocalMeant l) span = refl
  name_spot_bare (FieldMeant f) span = own_field_bare (is_static P f) f span ∙ ap (λ b. own_field (bare P) b f no_span) (sym (static_is P f))
  name_spot_bare (ClassMeant k) span = refl
  name_spot_bare SystemMeant span = refl
  name_spot_bare NothingMeant span = refl

  module _ (first : ℕ) where
    pub access_place_bare : (a : Access) (t : Temporaries) (v : Value) → bare_located (access_place P first a t v) ≡ access_place (bare P) first a t (bare_value v)
    access_place_bare (ClassField f) t v = refl
    access_place_bare (ObjectField f) t v = refl
    access_place_bare ArrayLength t v = refl
    access_place_bare NoField t v = refl

    void_bare : (t : Temporaries) (c d : Fragment) (span : Span) → bare_fragment c ≡ d → bare_value (void P first t c span) ≡ void (bare P) first t d no_span
    void_bare t c d span e = as_valued (void P first t nothing no_span).operand (void P first t nothing no_span).behind e

    called_bare : (t : Temporaries) (c : Fragment) (span : Span) (m : ℕ) (receiver : Option Operand) (direct : Bool) (args : List Operand) → bare_value (called P first t c span m receiver direct args) ≡ called (bare P) first t (bare_fragment c) no_span m (bare_optional receiver) direct (bare_operands args)
    called_bare t c span m receiver direct args =
        pushed bare_value (is_void (result_base_of (method_at P m))) (void P first t (then c (does span (Call None (method_no m) receiver direct args))) span) (gives P first t c (result_base_of (method_at P m)) span (λ dst. Call (Some dst) (method_no m) receiver direct args))
        ∙ ap (λ x. cond (is_void (result_base_of (method_at P m))) x (bare_value (gives P first t c (result_base_of (method_at P m)) span (λ dst. Call (Some dst) (method_no m) receiver direct args))))
        (void_bare t (then c (does span (Call None (method_no m) receiver direct args))) (then (bare_fragment c) (does no_span (Call None (method_no m) (bare_optional receiver) direct (bare_operands args)))) span (then_bare c (does span (Call None (method_no m) receiver direct args))))
        ∙ ap (λ x. cond (is_void (result_base_of (method_at P m))) (void (bare P) first t (then (bare_fragment c) (does no_span (Call None (method_no m) (bare_optional receiver) direct (bare_operands args)))) no_span) x)
        (gives_bare P first t c (result_base_of (method_at P m)) span (λ dst. Call (Some dst) (method_no m) receiver direct args))
        ∙ ap (λ b. cond (is_void b) (void (bare P) first t (then (bare_fragment c) (does no_span (Call None (method_no m) (bare_optional receiver) direct (bare_operands args)))) no_span) (gives (bare P) first t (bare_fragment c) b no_span (λ dst. Call (Some dst) (method_no m) (bare_optional receiver) direct (bare_operands args)))) (sym (result_is P m))

    println_bare : (span : Span) (vs : List Operand) → bare_fragment (println_of P first span vs) ≡ println_of (bare P) first no_span (bare_operands vs)
    println_bare span [] = refl
    println_bare span (v ∷ vs) = refl

    pub dotted_bare : (k : Callee) (span : Span) (t : Temporaries) (v : Value) (args own : Operands) → bare_value (dotted_call P first k span t v args own) ≡ dotted_call (bare P) first k no_span t (bare_value v) (bare_row args) (bare_row own)
    dotted_bare Println span t v args own = void_bare own.behind (then own.fragment (println_of P first span own.values)) (then (bare_fragment own.fragment) (println_of (bare P) first no_span (bare_operands own.values))) span (then_bare own.fragment (println_of P first span own.values) ∙ ap (then (bare_fragment own.fragment)) (println_bare span own.values))
    dotted_bare (OfText op) span t v args own =
        gives_bare P first args.behind (then v.fragment args.fragment) (operation_base op) span (λ dst. StrOp dst op v.operand (first_of_operands args.values))
        ∙ ap (λ c. gives (bare P) first args.behind c (operation_base op) no_span (λ dst. StrOp dst op (bare_operand v.operand) (bare_optional (first_of_operands args.values)))) (then_bare v.fragment args.fragment)
        ∙ ap (λ o. gives (bare P) first args.behind (then (bare_fragment v.fragment) (bare_fragment args.fragment)) (operation_base op) no_span (λ dst. StrOp dst op (bare_operand v.operand) o)) (first_bare args.values)
    dotted_bare (ClassMethod m) span t v args own = called_bare own.behind own.fragment span m None false own.values
    dotted_bare (ObjectMethod m) span t v args own =
        called_bare args.behind (then v.fragment args.fragment) span m (Some v.operand) (private_of (method_at P m)) args.values
        ∙ ap (λ c. called (bare P) first args.behind c no_span m (Some (bare_operand v.operand)) (private_of (method_at P m)) (bare_operands args.values)) (then_bare v.fragment args.fragment)
        ∙ ap (λ b. called (bare P) first args.behind (then (bare_fragment v.fragment) (bare_fragment args.fragment)) no_span m (Some (bare_operand v.operand)) b (bare_operands args.values)) (sym (private_is P m))
    dotted_bare NoMethod span t v args own = void_bare args.behind (then v.fragment args.fragment) (then (bare_fragment v.fragment) (bare_fragment args.fragment)) span (then_bare v.fragment args.fragment)

    receiver_bare : (b : Bool) (span : Span) → bare_optional (own_receiver P first b span) ≡ own_receiver (bare P) first b no_span
    receiver_bare true span = refl
    receiver_bare false span = refl

    pub own_call_bare : (m : Option ℕ) (name span : Span) (args : Operands) → bare_value (own_call P first m name span args) ≡ own_call (bare P) first m no_span no_span (bare_row args)
    own_call_bare None name span args = refl
    own_call_bare (Some m) name span args =
        called_bare args.behind args.fragment span m (own_receiver P first (static_of (method_at P m)) name) (not (static_of (method_at P m)) && private_of (method_at P m)) args.values
        ∙ ap (λ r. called (bare P) first args.behind (bare_fragment args.fragment) no_span m r (not (static_of (method_at P m)) && private_of (method_at P m)) (bare_operands args.values)) (receiver_bare (static_of (method_at P m)) name)
        ∙ ap (λ b. called (bare P) first args.behind (bare_fragment args.fragment) no_span m (own_receiver (bare P) first b no_span) (not b && private_of (method_at P m)) (bare_operands args.values)) (sym (static_method_is P m))
        ∙ ap (λ b. called (bare P) first args.behind (bare_fragment args.fragment) no_span m (own_receiver (bare P) first (static_of (method_at (bare P) m)) no_span) (not (static_of (method_at (bare P) m)) && b) (bare_operands args.values)) (sym (private_is P m))

    pub super_call_bare : (m : Option ℕ) (name span : Span) (args : Operands) → bare_value (super_call P first m name span args) ≡ super_call (bare P) first m no_span no_span (bare_row args)
    super_call_bare None name span args = refl
    super_call_bare (Some m) name span args = called_bare args.behind args.fragment span m (Some (this_operand name)) true args.values

    pub created_bare : (m : Option ℕ) (k : ℕ) (span : Span) (args : Operands) → bare_value (created P first m k span args) ≡ created (bare P) first m k no_span (bare_row args)
    created_bare None k span args = refl
    created_bare (Some m) k span args = gives_bare P first args.behind args.fragment (ref k) span (λ dst. New dst (method_no m) args.values)

    abbrev chosen_parts : Span → ℕ → Condition → Value → Value → List Piece
    chosen_parts span number q a b =
        to q.fragment (Part 1) (Part 4)
        ∷ plain a.fragment
        ∷ plain (does a.operand.span (Move (register (first + number)) a.operand None))
        ∷ to (goes span) (Part 6) (Part 6)
        ∷ plain b.fragment
        ∷ plain (does b.operand.span (Move (register (first + number)) b.operand None))
        ∷ []

    pub chosen_bare : (span : Span) (number : ℕ) (q : Condition) (a b : Value) → bare_value (chosen P first span number q a b) ≡ chosen (bare P) first no_span number (bare_condition q) (bare_value a) (bare_value b)
    chosen_bare span number q a b = as_valued (operand (first + number) no_span) b.behind (parts_bare (chosen_parts span number q a b))

    assigned_operand_bare : (p : Spot) (span : Span) (v : Operand) → bare_operand (assigned_operand P first p span v) ≡ assigned_operand (bare P) first (bare_spot p) no_span (bare_operand v)
    assigned_operand_bare (LocalSpot l) span v = refl
    assigned_operand_bare (StaticSpot f) span v = refl
    assigned_operand_bare (FieldSpot object f) span v = refl
    assigned_operand_bare (ElementSpot array index base) span v = refl
    assigned_operand_bare (LengthSpot array) span v = refl
    assigned_operand_bare NoSpot span v = refl

    pub simply_bare : (span : Span) (p : Spot) (c : Fragment) (v : Value) → bare_value (simply_assigned P first span p c v) ≡ simply_assigned (bare P) first no_span (bare_spot p) (bare_fragment c) (bare_value v)
    simply_bare span p c v =
        as_valued (bare_operand (assigned_operand P first p span v.operand)) v.behind
        (then_bare c (then v.fragment (write P first p span v.operand))
        ∙ ap (then (bare_fragment c)) (then_bare v.fragment (write P first p span v.operand) ∙ ap (then (bare_fragment v.fragment)) (write_bare P first p span v.operand)))
        ∙ ap (λ o. a_value (then (bare_fragment c) (then (bare_fragment v.fragment) (write (bare P) first (bare_spot p) no_span (bare_operand v.operand)))) o v.behind) (assigned_operand_bare p span v.operand)

    written_bare : (span : Span) (p : Spot) (v : Value) → bare_value (written P first span p v) ≡ written (bare P) first no_span (bare_spot p) (bare_value v)
    written_bare span p v = as_valued (bare_operand v.operand) v.behind (then_bare v.fragment (write P first p span v.operand) ∙ ap (then (bare_fragment v.fragment)) (write_bare P first p span v.operand))

    pub compound_bare : (span : Span) (o : Operator) (a b : BaseType) (p : Spot) (old v : Value) → bare_value (compound P first span o a b p old v) ≡ compound (bare P) first no_span o a b (bare_spot p) (bare_value old) (bare_value v)
    compound_bare span o a b p old v =
        written_bare span p (combined P first v.behind (then old.fragment v.fragment) span o a b old.operand v.operand)
        ∙ ap (written (bare P) first no_span (bare_spot p)) (combined_bare P first v.behind (then old.fragment v.fragment) span o a b old.operand v.operand
        ∙ ap (λ c. combined (bare P) first v.behind c no_span o a b (bare_operand old.operand) (bare_operand v.operand)) (then_bare old.fragment v.fragment))

    one_bare : (t : Temporaries) (c : Fragment) (span : Span) → bare_value (one P first t c span) ≡ one (bare P) first t (bare_fragment c) no_span
    one_bare t c span = gives_bare P first t c Int span (λ dst. Const dst (IntOf (pos 1)))

    stepped_bare : (span : Span) (o : Operator) (p : Spot) (old : Operand) (v : Value) → bare_value (stepped P first span o p old v) ≡ stepped (bare P) first no_span o (bare_spot p) (bare_operand old) (bare_value v)
    stepped_bare span o p old v =
        written_bare span p (gives P first v.behind v.fragment Int span (λ dst. Binary dst o old v.operand))
        ∙ ap (written (bare P) first no_span (bare_spot p)) (gives_bare P first v.behind v.fragment Int span (λ dst. Binary dst o old v.operand))

    pub prefixed_bare : (span : Span) (step : Step) (p : Spot) (old : Value) → bare_value (prefixed P first span step p old) ≡ prefixed (bare P) first no_span step (bare_spot p) (bare_value old)
    prefixed_bare span step p old =
        stepped_bare span (step_operator step) p old.operand (one P first old.behind old.fragment span)
        ∙ ap (stepped (bare P) first no_span (step_operator step) (bare_spot p) (bare_operand old.operand)) (one_bare old.behind old.fragment span)

    pub old_bare : (p : Spot) (base : BaseType) (span : Span) (v : Value) → bare_value (old_value P first p base span v) ≡ old_value (bare P) first (bare_spot p) base no_span (bare_value v)
    old_bare (LocalSpot l) base span v = gives_bare P first v.behind v.fragment base span (λ dst. Move dst v.operand None)
    old_bare (StaticSpot f) base span v = refl
    old_bare (FieldSpot object f) base span v = refl
    old_bare (ElementSpot array index b) base span v = refl
    old_bare (LengthSpot array) base span v = refl
    old_bare NoSpot base span v = refl

    pub postfixed_bare : (span : Span) (step : Step) (p : Spot) (old : Operand) (v : Value) → bare_value (postfixed P first span step p old v) ≡ postfixed (bare P) first no_span step (bare_spot p) (bare_operand old) (bare_value v)
    postfixed_bare span step p old v =
        ap (with_result (bare P) first (bare_operand v.operand))
        (stepped_bare span (step_operator step) p old (one P first v.behind v.fragment span)
        ∙ ap (stepped (bare P) first no_span (step_operator step) (bare_spot p) (bare_operand old)) (one_bare v.behind v.fragment span))
