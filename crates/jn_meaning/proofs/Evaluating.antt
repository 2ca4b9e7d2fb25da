-- Every expression's points do what it means.
use Rattle.std.proofs.Common.{◌≡◌, ℕ, Bool, true, false, cond, not, ◌&&◌, ◌||◌, inl, List, eqb, Option, Some, None, refl, subst, arith}
use Rattle.std.proofs.lemmas.Bool.{eq-eqb}
use Rattle.jn_base.specs.declared.place.Span.{Span}
use Rattle.jn_trees.specs.declared.expression.UnaryOperator.{UnaryOperator}
use Rattle.jn_trees.specs.declared.expression.UnaryOperator.TheVariants.{Plus, Minus, Not}
use Rattle.jn_trees.specs.declared.expression.BinaryOperator.{BinaryOperator}
use Rattle.jn_trees.specs.declared.expression.BinaryOperator.TheVariants.{And, Equal, Or}
use Rattle.jn_trees.specs.declared.expression.AssignOperator.{AssignOperator}
use Rattle.jn_points.specs.declared.point.BaseType.{BaseType}
use Rattle.jn_points.specs.declared.point.Operand.{Operand}
use Rattle.jn_points.specs.declared.point.Origin.{Origin}
use Rattle.jn_points.specs.declared.point.PointKind.TheVariants.{Call}
use Rattle.jn_points.specs.BaseRows.{is_void}
use Rattle.jn_points.specs.Lookup.{method_at, private_of, result_base_of, static_of}
use Rattle.jn_points.specs.Members.{constructor_of, method_of}
use Rattle.jn_points.specs.Regular.{operation_base}
use Rattle.jn_places.specs.Placed.{PlacedTree, PlacedTrees, NoPlacedTrees, MorePlacedTrees, PlacedLiteral, PlacedName, PlacedThis, PlacedParen, PlacedField, PlacedCall, PlacedOwnCall, PlacedSuperCall, PlacedIndex, PlacedNew, PlacedNewArray, PlacedArrayOf, PlacedPostfix, PlacedPrefix, PlacedUnary, PlacedCast, PlacedBinary, PlacedInstanceOf, PlacedConditional, PlacedAssign}
use Rattle.jn_lowering.specs.Fragments.{Fragment, does, nothing, then}
use Rattle.jn_lowering.specs.Temporaries.{Temporaries, take_one}
use Rattle.jn_lowering.specs.Scopes.{Scope, Meaning, LocalMeant, FieldMeant, ClassMeant, SystemMeant, NothingMeant, Access, ClassField, ObjectField, ArrayLength, NoField, Callee, Println, OfText, ClassMethod, ObjectMethod, NoMethod, access, callee, class_named, count, meaning, or_zero, super_method}
use Rattle.jn_lowering.specs.Bases.{array_type, compound_of, is_equality, is_simple, operator_of, ref, type_of, wider}
use Rattle.jn_lowering.specs.Forms.{Condition, Located, Lowered as Form, Value as Lowered, as_condition, as_value, gives, kept, none_later, read_of, void}
use Rattle.jn_lowering.specs.Calls.{Operands, access_place, called, compound, created, dotted_call, is_static, method_no, name_spot, null_tested, own_call, own_field, own_receiver, simply_assigned, super_call, this_operand}
use Rattle.jn_lowering.specs.Expressions.{assigns, assigns_any, assignment, binary, calculated, element, is_null, is_register, lower, names_register, on_null, operands, origin_of, span_of, unary}
use Rattle.jn_heap.specs.Values.{Value}
use Rattle.jn_heap.specs.State.{object_of, value_at}
use Rattle.jn_meaning.specs.Fitting
use Rattle.jn_meaning.specs.Fitting.{IsTarget}
use Rattle.jn_meaning.specs.Worlds.{World, Result, Has, derefs, then_do}
use Rattle.jn_meaning.specs.Operations.{Place, all_there}
use Rattle.jn_meaning.specs.Expressions.{Caller, Meant, assignment as assignment_of, binary as binary_of_forms, calculated as calculated_of, compound as compounded, entered, entered_on, result as result_of, simply_assigned as assigned_simply, called_own, called_on, called_static, created as created_of, dotted_call as dotted_of, evaluated, is_on_null, meant, null_holds, of_condition, of_value, operand_span, own_call as own_of, super_call as super_of, unary as unary_of_form}
use Rattle.jn_meaning.proofs.Running.{at_once, weaker}
use Rattle.jn_meaning.proofs.Placing.{nothing_sized}
use Rattle.jn_meaning.proofs.Following.{Ground, extends_self, kept_less, kept_self}
use Rattle.jn_meaning.proofs.Laws.{PlaceLaw, Safe, ValueLaw, Valued, kept_law}
use Rattle.jn_meaning.proofs.Writing.{Covers}
use Rattle.jn_meaning.proofs.Choosing.{and_law, choice_law, instance_law, negated_law, null_law, or_law, or_left, or_right}
use Rattle.jn_meaning.proofs.Calculating.{calculated_law, cast_law, new_array_law, unary_law}
use Rattle.jn_meaning.proofs.Assigning.{compound_law, postfix_law, prefix_law, simple_law}
use Rattle.jn_meaning.proofs.Calling.{CallLaw, Gathered, OperandsLaw, array_of_law, method_law, new_law, no_operands_law, on_this_law, static_law, text_law, with_operand_law}
use Rattle.jn_meaning.proofs.Naming.{AccessFit, Follows, NameFit, access_law, condition_less, element_law, follows_condition, follows_place, follows_value, literal_condition_law, literal_law, name_law, no_target}

module _ (K : Ground) (call : Caller) (calling : CallLaw K call) (c : ℕ) (s : Scope) where
  -- a method with a result
  abbrev pub HasResult : ℕ → Type 0
  HasResult m = Fitting.HasResult K.program K.first K.this m

  abbrev pub OnThis : Bool → Type 0
  OnThis b = Fitting.NeedsThis K.program K.first K.this b

  abbrev pub OwnCallFit : Option ℕ → Type 0 → Type 0
  OwnCallFit o Args = Fitting.OwnCallFit K.program K.first K.this (Fitting.HasResult K.program K.first K.this) o Args

  abbrev pub SuperCallFit : Option ℕ → Type 0 → Type 0
  SuperCallFit o Args = Fitting.SuperCallFit K.program K.first K.this (Fitting.HasResult K.program K.first K.this) o Args

  abbrev pub CreatedFit : Option ℕ → Type 0 → Type 0
  CreatedFit o Args = Fitting.CreatedFit K.program K.first K.this o Args

  abbrev pub CalleeFit : Callee → Type 0 → Type 0 → Type 0
  CalleeFit k On Args = Fitting.CalleeFit K.program K.first K.this k On Args

  abbrev pub Fit : PlacedTree → Type 0
  Fit e = Fitting.Fit K.program K.first K.this c s e

  abbrev pub AllFit : PlacedTrees → Type 0
  AllFit es = Fitting.AllFit K.program K.first K.this c s es

  -- an assigned local is among those that the form assigns
  target_covers : (e : PlacedTree) → IsTarget e → (t : Temporaries) (later g : ℕ → Bool) → Fit e → Covers K (λ r. names_register K.program c s r e || g r) ((lower K.program c K.first s t e).assigned later).spot
  target_covers (PlacedName n) h t later g fit = by (meaning K.program c s n.name.0) fit
    where
      or_true : (a b : Bool) → a ≡ true → (a || b) ≡ true
      or_true true b e = refl
      or_true false b e = cc

      field : (b : Bool) (f : ℕ) → Covers K (λ r. is_register K.program c (FieldMeant f) r || g r) (own_field K.program b f n.span)
      field true f = tt
      field false f = tt

      by : (m : Meaning) → NameFit K m → Covers K (λ r. is_register K.program c m r || g r) (name_spot K.program m n.span)
      by (LocalMeant l) fit = or_true (eqb l.reg l.reg) (g l.reg) (eq-eqb l.reg l.reg refl)
      by (FieldMeant f) fit = field (is_static K.program f) f
      by (ClassMeant k) fit = absurd fit
      by SystemMeant fit = absurd fit
      by NothingMeant fit = absurd fit
  target_covers (PlacedField e n span) h t later g fit = by (access K.program c s e (type_of K.program c s e) n.name.0) fit
    where
      by : (a : Access) → AccessFit K a (Fit e) → Covers K (λ r. false || g r) (access_place K.program K.first a t (kept K.program K.first later (type_of K.program c s e) (lower K.program c K.first s t e).value)).spot
      by (ClassField f) fit = tt
      by (ObjectField f) fit = tt
      by ArrayLength fit = tt
      by NoField fit = absurd fit
  target_covers (PlacedIndex a i span) h t later g fit = tt
  target_covers e h t later g fit = absurd h

  -- the side that a null is on is the same
  same_null : (o : BinaryOperator) → on_null K.program c K.first o ≡ is_on_null o
  same_null Equal = refl
  same_null o = refl

  -- binary forms
  module _ (t : Temporaries) (f g : ℕ → Bool) (span sa sb : Span) (T U : Type 0) (null_l null_r : Bool) (origin_l origin_r : Option Origin) (a b : BaseType) (l : Form) (r : Temporaries → Form) (ml mr : Meant) (left : Follows K t f sa T l ml) (right : (u : Temporaries) → Follows K u g sb U (r u) mr) where
    abbrev both : ℕ → Bool
    both n = f n || g n

    abbrev l' : Lowered
    l' = kept K.program K.first g a l.value

    abbrev lowered_plain : (o : BinaryOperator) → Bool → Bool → Form
    lowered_plain o is_equal null = cond (is_equal && null_r) (as_condition K.program K.first t span (null_tested null origin_l span l.value))
        (cond (is_equal && null_l) (as_condition K.program K.first t span (null_tested null origin_r span (r t).value))
        (as_value t (calculated K.program c K.first span o a b l' (r l'.behind).value)))

    abbrev meant_plain : (o : BinaryOperator) → Bool → Bool → Meant
    meant_plain o is_equal null = cond (is_equal && null_r) (of_condition (null_holds null ml.value))
        (cond (is_equal && null_l) (of_condition (null_holds null mr.value))
        (of_value (calculated_of K.program K.names K.longest span (operator_of o) a b ml.value mr.value)))

    plain_law : (o : BinaryOperator) (is_equal null : Bool) → Follows K t both span ⊥ (lowered_plain o is_equal null) (meant_plain o is_equal null)
    plain_law o is_equal null = by (is_equal && null_r) (is_equal && null_l)
      where
        by : (x y : Bool) → Follows K t both span ⊥ (cond x (as_condition K.program K.first t span (null_tested null origin_l span l.value)) (cond y (as_condition K.program K.first t span (null_tested null origin_r span (r t).value)) (as_value t (calculated K.program c K.first span o a b l' (r l'.behind).value)))) (cond x (of_condition (null_holds null ml.value)) (cond y (of_condition (null_holds null mr.value)) (of_value (calculated_of K.program K.names K.longest span (operator_of o) a b ml.value mr.value))))
        by true y = follows_condition K t both span _ _ (condition_less K t f both (λ n e. or_left (f n) (g n) e) _ _ (null_law K t f span sa l.value ml.value left.value null origin_l))
        by false true = let q = right t in follows_condition K t both span _ _ (condition_less K t g both (λ n e. or_right (f n) (g n) e) _ _ (null_law K t g span sb (r t).value mr.value q.value null origin_r))
        by false false =
            let k = kept_law K t f g a sa l.value ml.value left.value in
            let q = right l'.behind in
            follows_value K t both span _ _ (calculated_law K t f g span sa sb l' (r l'.behind).value ml.value mr.value k.0 k.1 q.value (operator_of o) a b)

    pub binary_law : (o : BinaryOperator) → Follows K t both span ⊥ (binary K.program c K.first span o null_l null_r origin_l origin_r a b g l r t) (binary_of_forms K.program K.names K.longest span o null_l null_r a b ml mr)
    binary_law And = let q = right l.condition.behind in follows_condition K t both span _ _ (and_law K t f g l.condition (r l.condition.behind).condition ml.condition mr.condition left.condition q.condition)
    binary_law Or = let q = right l.condition.behind in follows_condition K t both span _ _ (or_law K t f g l.condition (r l.condition.behind).condition ml.condition mr.condition left.condition q.condition)
    binary_law o = subst (λ z. Follows K t both span ⊥ (lowered_plain o (is_equality o) (on_null K.program c K.first o)) (meant_plain o (is_equality o) z)) (same_null o)
        (plain_law o (is_equality o) (on_null K.program c K.first o))

  -- unary forms
  unary_form_law : (t : Temporaries) (f : ℕ → Bool) (span inner : Span) (T : Type 0) (o : UnaryOperator) (e : Form) (m : Meant) → Follows K t f inner T e m → Follows K t f span ⊥ (unary K.program c K.first t span o e) (unary_of_form K.program K.names K.longest span o m)
  unary_form_law t f span inner T Not e m law = follows_condition K t f span _ _ (negated_law K t f e.condition m.condition law.condition)
  unary_form_law t f span inner T Minus e m law = follows_value K t f span _ _ (unary_law K t f inner span e.value m.value law.value true)
  unary_form_law t f span inner T Plus e m law = follows_value K t f span _ _ (unary_law K t f inner span e.value m.value law.value false)

  -- calls of methods with a result
  called_value : (t u : Temporaries) (f : ℕ → Bool) (before : Fragment) (span : Span) (m : ℕ) (receiver : Option Operand) (direct : Bool) (args : List Operand) (mm : Bool → World → Result (Option Value)) → HasResult m → ValueLaw K t f span (gives K.program K.first u before (result_base_of (method_at K.program m)) span (λ dst. Call (Some dst) (method_no m) receiver direct args)) (mm false) → ValueLaw K t f span (called K.program K.first u before span m receiver direct args) (mm (is_void (result_base_of (method_at K.program m))))
  called_value t u f before span m receiver direct args mm none law = by (is_void (result_base_of (method_at K.program m))) none
    where
      by : (b : Bool) → b ≡ false → ValueLaw K t f span (cond b (void K.program K.first u (then before (does span (Call None (method_no m) receiver direct args))) span) (gives K.program K.first u before (result_base_of (method_at K.program m)) span (λ dst. Call (Some dst) (method_no m) receiver direct args))) (mm b)
      by true e = cc
      by false e = law

  abbrev Ops : Type 0
  Ops = List (Option Value)

  static_value : (t : Temporaries) (f : ℕ → Bool) (os : Operands) (ms : World → Result Ops) (span : Span) (m : ℕ) (direct : Bool) → HasResult m → OperandsLaw K t f os ms → ValueLaw K t f span (called K.program K.first os.behind os.fragment span m None direct os.values) (λ w. then_do (ms w) (called_static K.program K.names K.longest call span m))
  static_value t f os ms span m direct some law = called_value t os.behind f os.fragment span m None direct os.values (λ b w. then_do (ms w) (λ xs w. then_do (entered K.program K.names K.longest call (Some m) (all_there xs) w) (result_of K.program K.names K.longest call b span))) some (static_law K call calling t f os ms (result_base_of (method_at K.program m)) span m direct law)

  this_value : (t : Temporaries) (f : ℕ → Bool) (os : Operands) (ms : World → Result Ops) (span at : Span) (m : ℕ) (direct : Bool) → HasResult m → K.this ≡ true → OperandsLaw K t f os ms → ValueLaw K t f span (called K.program K.first os.behind os.fragment span m (Some (this_operand at)) direct os.values) (λ w. then_do (ms w) (λ xs w. called_on K.program K.names K.longest call span m direct (value_at w.locals 0) at xs w))
  this_value t f os ms span at m direct some this law = called_value t os.behind f os.fragment span m (Some (this_operand at)) direct os.values (λ b w. then_do (ms w) (λ xs w. derefs (value_at w.locals 0) at w (then_do (entered_on K.program K.names K.longest call (object_of (value_at w.locals 0)) m direct (all_there xs) w) (result_of K.program K.names K.longest call b span)))) some (on_this_law K call calling t f os ms (result_base_of (method_at K.program m)) span m direct (this_operand at) refl this law)

  own_call_law : (t : Temporaries) (f : ℕ → Bool) (o : Option ℕ) (os : Operands) (ms : World → Result Ops) (span at : Span) (Args : Type 0) → OwnCallFit o Args → (Args → OperandsLaw K t f os ms) → ValueLaw K t f span (own_call K.program K.first o at span os) (λ w. then_do (ms w) (own_of K.program K.names K.longest call o span at))
  own_call_law t f None os ms span at Args fit law = absurd fit
  own_call_law t f (Some m) os ms span at Args fit law = by (static_of (method_at K.program m)) fit.1
    where
      by : (b : Bool) → OnThis b → ValueLaw K t f span (called K.program K.first os.behind os.fragment span m (own_receiver K.program K.first b at) (not b && private_of (method_at K.program m)) os.values) (λ w. then_do (ms w) (called_own K.program K.names K.longest call b span at m))
      by true h = static_value t f os ms span m (not true && private_of (method_at K.program m)) fit.0 (law fit.2)
      by false h = this_value t f os ms span at m (private_of (method_at K.program m)) fit.0 h (law fit.2)

  super_call_law : (t : Temporaries) (f : ℕ → Bool) (o : Option ℕ) (os : Operands) (ms : World → Result Ops) (span at : Span) (Args : Type 0) → SuperCallFit o Args → (Args → OperandsLaw K t f os ms) → ValueLaw K t f span (super_call K.program K.first o at span os) (λ w. then_do (ms w) (super_of K.program K.names K.longest call o span at))
  super_call_law t f None os ms span at Args fit law = absurd fit
  super_call_law t f (Some m) os ms span at Args fit law = this_value t f os ms span at m true fit.0 fit.1 (law fit.2)

  created_law : (t : Temporaries) (f : ℕ → Bool) (o : Option ℕ) (k : ℕ) (os : Operands) (ms : World → Result Ops) (span : Span) (Args : Type 0) → CreatedFit o Args → (Args → OperandsLaw K t f os ms) → ValueLaw K t f span (created K.program K.first o k span os) (λ w. then_do (ms w) (created_of K.program K.names K.longest call o))
  created_law t f None k os ms span Args fit law = absurd fit
  created_law t f (Some m) k os ms span Args fit law = new_law K call calling t f os ms (ref k) span m fit.0 (law fit.1)

  dotted_call_law : (t : Temporaries) (f g : ℕ → Bool) (k : Callee) (span at : Span) (v : Lowered) (args own : Operands) (mv : World → Result (Option Value)) (ms : World → Result Ops) (On Args : Type 0) → CalleeFit k On Args → (On → ValueLaw K t f at v mv × Safe K v.behind g v.operand.reg.0) → (Args → OperandsLaw K v.behind g args ms) → (Args → OperandsLaw K t (λ r. f r || g r) own ms) → ValueLaw K t (λ r. f r || g r) span (dotted_call K.program K.first k span t v args own) (dotted_of K.program K.names K.longest call k span at mv ms)
  dotted_call_law t f g Println span at v args own mv ms On Args fit on after alone = absurd fit
  dotted_call_law t f g (OfText op) span at v args own mv ms On Args fit on after alone = let one = on fit.0 in text_law K t f g at v args mv ms one.0 one.1 (after fit.1) call span (operation_base op) op
  dotted_call_law t f g (ClassMethod m) span at v args own mv ms On Args fit on after alone = static_value t (λ r. f r || g r) own ms span m false fit.0 (alone fit.1)
  dotted_call_law t f g (ObjectMethod m) span at v args own mv ms On Args fit on after alone =
      let one = on fit.1 in
      called_value t args.behind (λ r. f r || g r) (then v.fragment args.fragment) span m (Some v.operand) (private_of (method_at K.program m)) args.values
      (λ b w. then_do (mv w) (λ x w. then_do (ms w) (λ xs w. derefs x at w (then_do (entered_on K.program K.names K.longest call (object_of x) m (private_of (method_at K.program m)) (all_there xs) w) (result_of K.program K.names K.longest call b span))))) fit.0
      (method_law K call calling t f g at v args mv ms one.0 one.1 (after fit.2) (result_base_of (method_at K.program m)) span m (private_of (method_at K.program m)))
  dotted_call_law t f g NoMethod span at v args own mv ms On Args fit on after alone = absurd fit

  -- fewer assigned locals
  operands_less : (t : Temporaries) (f g : ℕ → Bool) → ((r : ℕ) → g r ≡ false → f r ≡ false) → (os : Operands) (m : World → Result Ops) → OperandsLaw K t f os m → OperandsLaw K t g os m
  operands_less t f g less os m law = record {
    sized = law.sized;
    extends = law.extends;
    below = law.below;
    runs = λ p x y h room b st w at mir. weaker K.program K.names Ops (Gathered K t f os p st) (Gathered K t g os p st) 0 0 st w.fuel (m w) (omega arith) (λ a u w z. record { at = z.at; mirrors = z.mirrors; kept = kept_less K t f g st u less z.kept; holds = z.holds }) (law.runs p x y h room b st w at mir);
  }

  -- assignments
  module _ (t : Temporaries) (f g h : ℕ → Bool) (span at se : Span) (a b : BaseType) (target : Located) (e : Temporaries → Form) (mp : World → Result Place) (me : Meant) (U : Type 0) (from_f : (r : ℕ) → h r ≡ false → f r ≡ false) (from_g : (r : ℕ) → h r ≡ false → g r ≡ false) (covers : Covers K h target.spot) (place : PlaceLaw K t f g target mp) (value : (u : Temporaries) → Follows K u g se U (e u) me) where
    pub assignment_law : (o : AssignOperator) → ValueLaw K t h span (assignment K.program c K.first span o a b g at target e) (assignment_of K.program K.names K.longest span o a b at mp me.value)
    assignment_law o = by (is_simple o)
      where
        old : Lowered
        old = kept K.program K.first g a (read_of K.program K.first target at)

        by : (x : Bool) → ValueLaw K t h span (cond x (simply_assigned K.program K.first span target.spot target.fragment (e target.behind).value) (compound K.program K.first span (compound_of o) a b target.spot old (e old.behind).value)) (cond x (assigned_simply K.program K.names K.longest span mp me.value) (compounded K.program K.names K.longest span at (compound_of o) a b mp me.value))
        by true = let v = value target.behind in simple_law K t f g h span se target (e target.behind).value mp me.value from_f from_g covers place v.value
        by false = compound_law K t f g h span at se (compound_of o) a b target (λ u. (e u).value) mp me.value from_f from_g covers place (λ u. let v = value u in v.value)

  -- `this`
  this_law : (t : Temporaries) (f : ℕ → Bool) (span : Span) → K.this ≡ true → ValueLaw K t f span (record { fragment = nothing; operand = this_operand span; behind = t }) (λ w. Has (value_at w.locals 0) w)
  this_law t f span this = record {
    sized = nothing_sized;
    extends = extends_self t;
    below = λ b. b;
    stands = inl (K.up this);
    spanned = refl;
    runs = λ p x y h room b st w at mir. at_once K.program K.names (Option Value) (Valued K t f (record { fragment = nothing; operand = this_operand span; behind = t }) p st) st (value_at w.locals 0) w (record { at = omega (at, arith); mirrors = mir; kept = kept_self K t f st; holds = mir.locals 0 (K.up this) });
  }

  mutual
    -- each form in each of its uses
    pub follows : (t : Temporaries) (e : PlacedTree) → Fit e → Follows K t (λ r. assigns K.program c s r e) (operand_span e) (IsTarget e) (lower K.program c K.first s t e) (meant K.program K.names K.longest call c s e)
    follows t (PlacedLiteral l span) fit =
        let v = literal_law K t (λ r. false) l span in
        record { value = v; condition = literal_condition_law K t (λ r. false) l span _ _ v; place = λ h later. absurd h }
    follows t (PlacedName n) fit = follows_place K t (λ r. false) n.span (λ later. record { fragment = nothing; spot = name_spot K.program (meaning K.program c s n.name.0) n.span; behind = t }) _ (λ later. name_law K t (λ r. false) later (meaning K.program c s n.name.0) n.span fit)
    follows t (PlacedThis span) fit = follows_value K t (λ r. false) span _ _ (this_law t (λ r. false) span fit)
    follows t (PlacedParen e span) fit = no_target K t (λ r. assigns K.program c s r e) (operand_span e) (IsTarget e) _ _ (follows t e fit)
    follows t (PlacedField e n span) fit =
        follows_place K t (λ r. assigns K.program c s r e) span (λ later. access_place K.program K.first (access K.program c s e (type_of K.program c s e) n.name.0) t (kept K.program K.first later (type_of K.program c s e) (lower K.program c K.first s t e).value)) _
        (λ later. access_law K t (λ r. assigns K.program c s r e) later (access K.program c s e (type_of K.program c s e) n.name.0) (operand_span e) _ _ (Fit e) fit (λ fit. let i = follows t e fit in kept_law K t (λ r. assigns K.program c s r e) later (type_of K.program c s e) (operand_span e) _ _ i.value))
    follows t (PlacedCall e n es span) fit =
        let v : Lowered = kept K.program K.first (λ r. assigns_any K.program c s r es) (type_of K.program c s e) (lower K.program c K.first s t e).value in
        follows_value K t (λ r. assigns K.program c s r e || assigns_any K.program c s r es) span _ _
        (dotted_call_law t (λ r. assigns K.program c s r e) (λ r. assigns_any K.program c s r es) (callee K.program c s e (type_of K.program c s e) n.name.0 (count es)) span (operand_span e) v (operands K.program c K.first s v.behind es) (operands K.program c K.first s t es) _ _ (Fit e) (AllFit es) fit
        (λ fit. let i = follows t e fit in kept_law K t (λ r. assigns K.program c s r e) (λ r. assigns_any K.program c s r es) (type_of K.program c s e) (operand_span e) _ _ i.value)
        (λ fit. all_follow v.behind es fit)
        (λ fit. operands_less t (λ r. assigns_any K.program c s r es) (λ r. assigns K.program c s r e || assigns_any K.program c s r es) (λ r h. or_right (assigns K.program c s r e) (assigns_any K.program c s r es) h) _ _ (all_follow t es fit)))
    follows t (PlacedOwnCall n es span) fit = follows_value K t (λ r. assigns_any K.program c s r es) span _ _ (own_call_law t (λ r. assigns_any K.program c s r es) (method_of K.program c n.name.0 (count es)) (operands K.program c K.first s t es) _ span n.span (AllFit es) fit (all_follow t es))
    follows t (PlacedSuperCall n es span) fit = follows_value K t (λ r. assigns_any K.program c s r es) span _ _ (super_call_law t (λ r. assigns_any K.program c s r es) (super_method K.program c n.name.0 (count es)) (operands K.program c K.first s t es) _ span n.span (AllFit es) fit (all_follow t es))
    follows t (PlacedIndex a i span) fit =
        follows_place K t (λ r. assigns K.program c s r a || assigns K.program c s r i) span (λ later. element K.program c K.first span (type_of K.program c s a)
        (kept K.program K.first (λ r. assigns K.program c s r i || later r) (type_of K.program c s a) (lower K.program c K.first s t a).value)
        (kept K.program K.first later (type_of K.program c s i) (lower K.program c K.first s (kept K.program K.first (λ r. assigns K.program c s r i || later r) (type_of K.program c s a) (lower K.program c K.first s t a).value).behind i).value)) _
        (λ later.
        let x : Lowered = kept K.program K.first (λ r. assigns K.program c s r i || later r) (type_of K.program c s a) (lower K.program c K.first s t a).value in
        let left = follows t a fit.0 in
        let right = follows x.behind i fit.1 in
        let k = kept_law K t (λ r. assigns K.program c s r a) (λ r. assigns K.program c s r i || later r) (type_of K.program c s a) (operand_span a) _ _ left.value in
        let m = kept_law K x.behind (λ r. assigns K.program c s r i) later (type_of K.program c s i) (operand_span i) _ _ right.value in
        element_law K t (λ r. assigns K.program c s r a) (λ r. assigns K.program c s r i) later c span (operand_span a) (operand_span i) (type_of K.program c s a) x (kept K.program K.first later (type_of K.program c s i) (lower K.program c K.first s x.behind i).value) _ _ k.0 k.1 m.0 m.1)
    follows t (PlacedNew n es span) fit = follows_value K t (λ r. assigns_any K.program c s r es) span _ _ (created_law t (λ r. assigns_any K.program c s r es) (constructor_of K.program (or_zero (class_named K.program n.name.0)) (count es)) (or_zero (class_named K.program n.name.0)) (operands K.program c K.first s t es) _ span (AllFit es) fit (all_follow t es))
    follows t (PlacedNewArray annotations base size span) fit = let i = follows t size fit in follows_value K t (λ r. assigns K.program c s r size) span _ _ (new_array_law K t (λ r. assigns K.program c s r size) (operand_span size) span (lower K.program c K.first s t size).value _ (array_type K.program base annotations) i.value)
    follows t (PlacedArrayOf annotations base es span) fit = follows_value K t (λ r. assigns_any K.program c s r es) span _ _ (array_of_law K t (λ r. assigns_any K.program c s r es) span (array_type K.program base annotations) (operands K.program c K.first s t es) _ (all_follow t es fit))
    follows t (PlacedPostfix e step span) fit =
        let i = follows t e fit.0 in
        follows_value K t (λ r. names_register K.program c s r e || assigns K.program c s r e) span _ _
        (postfix_law K t (λ r. assigns K.program c s r e) none_later (λ r. names_register K.program c s r e || assigns K.program c s r e) span (span_of e) (type_of K.program c s e) step ((lower K.program c K.first s t e).assigned none_later) _ (λ r h. or_right (names_register K.program c s r e) (assigns K.program c s r e) h) (target_covers e fit.1 t none_later (λ r. assigns K.program c s r e) fit.0) (i.place fit.1 none_later))
    follows t (PlacedPrefix step e span) fit =
        let i = follows t e fit.0 in
        follows_value K t (λ r. names_register K.program c s r e || assigns K.program c s r e) span _ _
        (prefix_law K t (λ r. assigns K.program c s r e) none_later (λ r. names_register K.program c s r e || assigns K.program c s r e) span (span_of e) step ((lower K.program c K.first s t e).assigned none_later) _ (λ r h. or_right (names_register K.program c s r e) (assigns K.program c s r e) h) (target_covers e fit.1 t none_later (λ r. assigns K.program c s r e) fit.0) (i.place fit.1 none_later))
    follows t (PlacedUnary o e span) fit = unary_form_law t (λ r. assigns K.program c s r e) span (operand_span e) (IsTarget e) o _ _ (follows t e fit)
    follows t (PlacedCast n e span) fit = let i = follows t e fit in follows_value K t (λ r. assigns K.program c s r e) span _ _ (cast_law K t (λ r. assigns K.program c s r e) (operand_span e) span (lower K.program c K.first s t e).value _ i.value (ref (or_zero (class_named K.program n.name.0))) (or_zero (class_named K.program n.name.0)))
    follows t (PlacedBinary a o b span) fit = binary_law t (λ r. assigns K.program c s r a) (λ r. assigns K.program c s r b) span (operand_span a) (operand_span b) (IsTarget a) (IsTarget b) (is_null a) (is_null b) (origin_of K.program c s a) (origin_of K.program c s b) (type_of K.program c s a) (type_of K.program c s b) _ (λ u. lower K.program c K.first s u b) _ _ (follows t a fit.0) (λ u. follows u b fit.1) o
    follows t (PlacedInstanceOf e n span) fit = let i = follows t e fit in follows_condition K t (λ r. assigns K.program c s r e) span _ _ (instance_law K t (λ r. assigns K.program c s r e) span (operand_span e) (lower K.program c K.first s t e).value _ i.value (or_zero (class_named K.program n.name.0)) (origin_of K.program c s e))
    follows t (PlacedConditional q a b span) fit =
        let x : Condition = (lower K.program c K.first s t q).condition in
        let base : BaseType = wider K.program (type_of K.program c s a) (type_of K.program c s b) in
        let y : Lowered = (lower K.program c K.first s (take_one x.behind base).behind a).value in
        let iq = follows t q fit.0 in
        let ia = follows (take_one x.behind base).behind a fit.1.0 in
        let ib = follows y.behind b fit.1.1 in
        follows_value K t (λ r. assigns K.program c s r q || (assigns K.program c s r a || assigns K.program c s r b)) span _ _
        (choice_law K t (λ r. assigns K.program c s r q) (λ r. assigns K.program c s r a) (λ r. assigns K.program c s r b) span (operand_span a) (operand_span b) base x y (lower K.program c K.first s y.behind b).value _ _ _ iq.condition ia.value ib.value)
    follows t (PlacedAssign target o e span) fit =
        let i = follows t target fit.0.0 in
        follows_value K t (λ r. names_register K.program c s r target || (assigns K.program c s r target || assigns K.program c s r e)) span _ _
        (assignment_law t (λ r. assigns K.program c s r target) (λ r. assigns K.program c s r e) (λ r. names_register K.program c s r target || (assigns K.program c s r target || assigns K.program c s r e)) span (span_of target) (operand_span e) (type_of K.program c s target) (type_of K.program c s e) ((lower K.program c K.first s t target).assigned (λ r. assigns K.program c s r e)) (λ u. lower K.program c K.first s u e) _ _ (IsTarget e)
        (λ r h. or_left (assigns K.program c s r target) (assigns K.program c s r e) (or_right (names_register K.program c s r target) (assigns K.program c s r target || assigns K.program c s r e) h))
        (λ r h. or_right (assigns K.program c s r target) (assigns K.program c s r e) (or_right (names_register K.program c s r target) (assigns K.program c s r target || assigns K.program c s r e) h))
        (target_covers target fit.0.1 t (λ r. assigns K.program c s r e) (λ r. assigns K.program c s r target || assigns K.program c s r e) fit.0.0)
        (i.place fit.0.1 (λ r. assigns K.program c s r e)) (λ u. follows u e fit.1) o)

    -- operands from left to right
    pub all_follow : (t : Temporaries) (es : PlacedTrees) → AllFit es → OperandsLaw K t (λ r. assigns_any K.program c s r es) (operands K.program c K.first s t es) (evaluated K.program K.names K.longest call c s es)
    all_follow t NoPlacedTrees fit = no_operands_law K t (λ r. false)
    all_follow t (MorePlacedTrees e es) fit =
        let v : Lowered = kept K.program K.first (λ r. assigns_any K.program c s r es) (type_of K.program c s e) (lower K.program c K.first s t e).value in
        let i = follows t e fit.0 in
        let k = kept_law K t (λ r. assigns K.program c s r e) (λ r. assigns_any K.program c s r es) (type_of K.program c s e) (operand_span e) _ _ i.value in
        with_operand_law K t (λ r. assigns K.program c s r e) (λ r. assigns_any K.program c s r es) (operand_span e) v (operands K.program c K.first s v.behind es) _ _ k.0 k.1 (all_follow v.behind es fit.1)
