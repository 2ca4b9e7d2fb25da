-- Forms, calls, creations and assignments don't depend on the places of the class table.
use Rattle.std.proofs.Common.{◌≡◌, ℕ, Bool, true, false, cond, not, ◌&&◌, List, [], ◌∷◌, Option, Some, None, refl}
use Rattle.jn_base.specs.declared.place.Span.{Span}
use Rattle.jn_trees.specs.declared.expression.Step.{Step}
use Rattle.jn_points.specs.declared.point.BaseType.{BaseType}
use Rattle.jn_points.specs.declared.point.BaseType.TheVariants.{Int}
use Rattle.jn_points.specs.declared.point.Operand.{Operand}
use Rattle.jn_points.specs.declared.point.Operator.{Operator}
use Rattle.jn_points.specs.declared.point.PointKind.TheVariants.{Binary, Call, FieldRead, StaticRead}
use Rattle.jn_points.specs.declared.program.Program.{Program}
use Rattle.jn_points.specs.BaseRows.{is_void}
use Rattle.jn_lowering.specs.Fragments.{Fragment, does, then}
use Rattle.jn_lowering.specs.Temporaries.{Temporaries}
use Rattle.jn_lowering.specs.Scopes.{Meaning, LocalMeant, FieldMeant, ClassMeant, SystemMeant, NothingMeant, Access, ClassField, ObjectField, ArrayLength, NoField, Callee, Println, OfText, ClassMethod, ObjectMethod, NoMethod}
use Rattle.jn_lowering.specs.Forms.{Value, Spot, LocalSpot, StaticSpot, FieldSpot, ElementSpot, LengthSpot, NoSpot, Located, Lowered, field_no, none_later, branch, step_operator, gives, void, read, write, read_of, as_place, combined}
use Rattle.jn_lowering.specs.Calls.{Operands, method_no, this_operand, own_field, name_spot, access_place, called, println_of, dotted_call, own_receiver, own_call, super_call, created, assigned_operand, simply_assigned, written, compound, one, stepped, prefixed, old_value, with_result, postfixed}
use Rattle.jn_places_law.specs.Bare.{bare}
use Rattle.jn_places_law.proofs.Meanings.{result_is, private_is, static_method_is, static_is, base_of_field}

abbrev a_value : Fragment → Operand → Temporaries → Value
a_value f o t = record { fragment = f; operand = o; behind = t }

-- a form that is read where it stands
abbrev placed : ((ℕ → Bool) → Located) → Value → Lowered
placed p v = record { value = v; condition = branch v; assigned = p }

module _ (P : Program) where
  own_field_is : (b : Bool) (f : ℕ) (span : Span) → own_field (bare P) b f span ≡ own_field P b f span
  own_field_is true f span = refl
  own_field_is false f span = refl

  pub name_spot_is : (m : Meaning) (span : Span) → name_spot (bare P) m span ≡ name_spot P m span
  name_spot_is (LocalMeant l) span = refl
  name_spot_is (FieldMeant f) span = λ i. own_field_is (static_is P f i) f span i
  name_spot_is (ClassMeant k) span = refl
  name_spot_is SystemMeant span = refl
  name_spot_is NothingMeant span = refl

  module _ (first : ℕ) where
    -- reading and writing

    read_is : (p : Spot) (t : Temporaries) (f : Fragment) (span : Span) → read (bare P) first p t f span ≡ read P first p t f span
    read_is (LocalSpot l) t f span = refl
    read_is (StaticSpot n) t f span = λ i. gives P first t f (base_of_field P n i) span (λ dst. StaticRead dst (field_no n))
    read_is (FieldSpot object n) t f span = λ i. gives P first t f (base_of_field P n i) span (λ dst. FieldRead dst object (field_no n))
    read_is (ElementSpot array index base) t f span = refl
    read_is (LengthSpot array) t f span = refl
    read_is NoSpot t f span = refl

    write_is : (p : Spot) (span : Span) (v : Operand) → write (bare P) first p span v ≡ write P first p span v
    write_is (LocalSpot l) span v = refl
    write_is (StaticSpot f) span v = refl
    write_is (FieldSpot object f) span v = refl
    write_is (ElementSpot array index base) span v = refl
    write_is (LengthSpot array) span v = refl
    write_is NoSpot span v = refl

    pub read_of_is : (p : Located) (span : Span) → read_of (bare P) first p span ≡ read_of P first p span
    read_of_is p span = read_is p.spot p.behind p.fragment span

    pub as_place_is : (span : Span) (p : (ℕ → Bool) → Located) → as_place (bare P) first span p ≡ as_place P first span p
    as_place_is span p = λ i. placed p (read_of_is (p none_later) span i)

    -- members

    pub access_place_is : (a : Access) (t : Temporaries) (v : Value) → access_place (bare P) first a t v ≡ access_place P first a t v
    access_place_is (ClassField f) t v = refl
    access_place_is (ObjectField f) t v = refl
    access_place_is ArrayLength t v = refl
    access_place_is NoField t v = refl

    called_is : (t : Temporaries) (f : Fragment) (span : Span) (m : ℕ) (receiver : Option Operand) (direct : Bool) (args : List Operand) → called (bare P) first t f span m receiver direct args ≡ called P first t f span m receiver direct args
    called_is t f span m receiver direct args = λ i.
        cond (is_void (result_is P m i))
        (void P first t (then f (does span (Call None (method_no m) receiver direct args))) span)
        (gives P first t f (result_is P m i) span (λ dst. Call (Some dst) (method_no m) receiver direct args))

    println_is : (span : Span) (args : List Operand) → println_of (bare P) first span args ≡ println_of P first span args
    println_is span [] = refl
    println_is span (v ∷ vs) = refl

    pub dotted_is : (k : Callee) (span : Span) (t : Temporaries) (v : Value) (args own : Operands) → dotted_call (bare P) first k span t v args own ≡ dotted_call P first k span t v args own
    dotted_is Println span t v args own = λ i. void P first own.behind (then own.fragment (println_is span own.values i)) span
    dotted_is (OfText op) span t v args own = refl
    dotted_is (ClassMethod m) span t v args own = called_is own.behind own.fragment span m None false own.values
    dotted_is (ObjectMethod m) span t v args own = λ i. called_is args.behind (then v.fragment args.fragment) span m (Some v.operand) (private_is P m i) args.values i
    dotted_is NoMethod span t v args own = refl

    receiver_is : (b : Bool) (span : Span) → own_receiver (bare P) first b span ≡ own_receiver P first b span
    receiver_is true span = refl
    receiver_is false span = refl

    pub own_call_is : (m : Option ℕ) (name span : Span) (args : Operands) → own_call (bare P) first m name span args ≡ own_call P first m name span args
    own_call_is None name span args = refl
    own_call_is (Some m) name span args = λ i. called_is args.behind args.fragment span m (receiver_is (static_method_is P m i) name i) (not (static_method_is P m i) && private_is P m i) args.values i

    pub super_call_is : (m : Option ℕ) (name span : Span) (args : Operands) → super_call (bare P) first m name span args ≡ super_call P first m name span args
    super_call_is None name span args = refl
    super_call_is (Some m) name span args = called_is args.behind args.fragment span m (Some (this_operand name)) true args.values

    pub created_is : (m : Option ℕ) (c : ℕ) (span : Span) (args : Operands) → created (bare P) first m c span args ≡ created P first m c span args
    created_is None c span args = refl
    created_is (Some m) c span args = refl

    -- assignments

    assigned_is : (p : Spot) (span : Span) (v : Operand) → assigned_operand (bare P) first p span v ≡ assigned_operand P first p span v
    assigned_is (LocalSpot l) span v = refl
    assigned_is (StaticSpot f) span v = refl
    assigned_is (FieldSpot object f) span v = refl
    assigned_is (ElementSpot array index base) span v = refl
    assigned_is (LengthSpot array) span v = refl
    assigned_is NoSpot span v = refl

    pub simply_is : (span : Span) (p : Spot) (f : Fragment) (v : Value) → simply_assigned (bare P) first span p f v ≡ simply_assigned P first span p f v
    simply_is span p f v = λ i. a_value (then f (then v.fragment (write_is p span v.operand i))) (assigned_is p span v.operand i) v.behind

    written_is : (span : Span) (p : Spot) (v : Value) → written (bare P) first span p v ≡ written P first span p v
    written_is span p v = λ i. a_value (then v.fragment (write_is p span v.operand i)) v.operand v.behind

    pub compound_is : (span : Span) (o : Operator) (a b : BaseType) (p : Spot) (old v : Value) → compound (bare P) first span o a b p old v ≡ compound P first span o a b p old v
    compound_is span o a b p old v = written_is span p (combined P first v.behind (then old.fragment v.fragment) span o a b old.operand v.operand)

    stepped_is : (span : Span) (o : Operator) (p : Spot) (old : Operand) (v : Value) → stepped (bare P) first span o p old v ≡ stepped P first span o p old v
    stepped_is span o p old v = written_is span p (gives P first v.behind v.fragment Int span (λ dst. Binary dst o old v.operand))

    pub prefixed_is : (span : Span) (step : Step) (p : Spot) (old : Value) → prefixed (bare P) first span step p old ≡ prefixed P first span step p old
    prefixed_is span step p old = stepped_is span (step_operator step) p old.operand (one P first old.behind old.fragment span)

    pub old_value_is : (p : Spot) (base : BaseType) (span : Span) (v : Value) → old_value (bare P) first p base span v ≡ old_value P first p base span v
    old_value_is (LocalSpot l) base span v = refl
    old_value_is (StaticSpot f) base span v = refl
    old_value_is (FieldSpot object f) base span v = refl
    old_value_is (ElementSpot array index element) base span v = refl
    old_value_is (LengthSpot array) base span v = refl
    old_value_is NoSpot base span v = refl

    pub postfixed_is : (span : Span) (step : Step) (p : Spot) (old : Operand) (v : Value) → postfixed (bare P) first span step p old v ≡ postfixed P first span step p old v
    postfixed_is span step p old v = λ i. with_result P first v.operand (stepped_is span (step_operator step) p old (one P first v.behind v.fragment span) i)
