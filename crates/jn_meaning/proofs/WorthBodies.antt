-- In a body whose points have no rows of types each operand has a value: so a program without rows of base typing has values where they are asked for.
use Rattle.std.proofs.Common.{◌≡◌, ◌+◌, ◌<◌, inl, ℕ, zero, suc, Bool, true, false, cond, not, List, [], ◌∷◌, ◌++◌, length, Option, Some, None, refl, sym, ap, ◌∙◌, subst, arith}
use Rattle.std.specs.Prelude.{slice_get, slice_index_or}
use Rattle.std.specs.List.{Contains}
use Rattle.jn_base.specs.declared.place.Row.{Row}
use Rattle.jn_base.specs.declared.place.Span.{Span}
use Rattle.jn_points.specs.declared.point.BaseType.{BaseType}
use Rattle.jn_points.specs.declared.point.Point.{Point}
use Rattle.jn_points.specs.declared.point.PointKind.{PointKind}
use Rattle.jn_points.specs.declared.point.PointKind.TheVariants.{CtorCall, FieldWrite, Return}
use Rattle.jn_points.specs.declared.program.Method.{Method}
use Rattle.jn_points.specs.declared.program.Program.{Program}
use Rattle.jn_points.specs.BaseRows.{NoBaseRows, Within, operand_rows, type_rows}
use Rattle.jn_points.specs.Lookup.{base_in, body_at, body_of, class_of, ctor_of, field_base, method_at, owner, params_of, static_of, point_at, points_of}
use Rattle.jn_points.specs.declared.point.BaseType.TheVariants.{Ref, Void}
use Rattle.jn_points.specs.Members.{constructor_of, declared_field}
use Rattle.jn_points.specs.Regular.{Regular}
use Rattle.jn_points.specs.BaseTyping.{given_bases}
use Rattle.jn_places.specs.Placed.{PlacedTree, PlacedTrees, PlacedDeclarator, PlacedMember, PlacedStatements, NoPlacedStatements, MorePlacedStatements, PlacedBlock, PlacedEmpty, PlacedExpression, PlacedBreak, PlacedContinue, PlacedReturn, PlacedLocalStatement, PlacedIf, PlacedIfElse, PlacedWhile, PlacedDo, PlacedFor, PlacedForEach, PlacedThisCall, PlacedSuperCallStatement}
use Rattle.jn_lowering.specs.Fragments.{Part, does, then, to}
use Rattle.jn_lowering.specs.Scopes.{count}
use Rattle.jn_lowering.specs.Forms.{Value as Lowered, field_no}
use Rattle.jn_lowering.specs.Calls.{Operands, is_static, method_no, this_operand}
use Rattle.jn_lowering.specs.Annotations.{when}
use Rattle.jn_lowering.specs.Locals.{State as LState, all_declared, with_temporaries}
use Rattle.jn_lowering.specs.Statements.{Step, back, fresh, no_step, statements, step, through}
use Rattle.jn_lowering.specs.Expressions.{span_of}
use Rattle.jn_lowering.specs.ExpressionRows.{ctor_rows, rows_of, rows_of_all}
use Rattle.jn_lowering.specs.StatementRows.{all_rows}
use Rattle.jn_lowering.specs.Bodies.{Source, arguments, at_entry, body_of_source, call_of, called_ctor, calls_own, class, code_of, construction, declarators_of, fields_of, first_parameter, initializer_value, initializers, initializers_of, initializes, local_count, name_span, parent, registers_of, writes_field}
use Rattle.jn_lowering.specs.BodyRows.{construction_rows, field_rows, in_body, in_initializer, initializer_rows, initializers_rows, member_rows, no_this, rows_of_source}
use Rattle.jn_lowering.proofs.Found.{ctor_found}
use Rattle.jn_lowering.proofs.GoodBodies.{call_on, fields_on}
use Rattle.jn_lowering.proofs.HeadsFacts.{heads_of}
use Rattle.jn_lowering.proofs.Laying.{get_right}
use Rattle.jn_lowering.proofs.NoRows.{append_none}
use Rattle.jn_lowering.proofs.Onward.{Onward, statements_on}
use Rattle.jn_lowering.proofs.Ranges.{Heads, ScopeIn}
use Rattle.jn_lowering.proofs.Taking.{Grows, grows_on, grows_self}
use Rattle.jn_lowering.proofs.GrowingAll.{all_grow}
use Rattle.jn_lowering.proofs.WholeBodies.{all_in, class_there, held_given, locals_counted, parameter_there}
use Rattle.jn_meaning.specs.Agreement.{Sourced}
use Rattle.jn_meaning.proofs.Valuing.{AllValued, AllValuing, BeginsValued, BodyValued, ConstructionValued, DeclaratorsInitialized, FieldInitialized, KindInitialized, MembersInitialized, OptionalInitialized}
use Rattle.jn_meaning.proofs.Standings.{call_of_stands, fields_of_stand, standing}
use Rattle.jn_meaning.proofs.Clearing.{Clean, Clear, Final, HasValue, arguments_read, final_before, parts_clean, read_value, then_clean}
use Rattle.jn_meaning.proofs.Worth.{arguments_of, counted, value_of}
use Rattle.jn_meaning.proofs.WorthStatements.{all_valued}

-- a regular program's heads
heads_in : (P : Program) → Regular P → Heads P
heads_in P H = heads_of P (record { few = H.few; classes = H.classes; fields = H.fields; methods = H.methods; pairs = H.pairs; implements = H.implements })

module _ (P : Program) (b : ℕ) where
  clear_points : (pts : List Point) → ((p : ℕ) (x : Point) → slice_get pts p ≡ Some x → type_rows P b x.kind ≡ []) → Clear P b pts
  clear_points [] h = tt
  clear_points (x ∷ xs) h = (h 0 x refl, clear_points xs (λ p y e. h (suc p) y e))

module _ (P : Program) (H : Heads P) (b m first : ℕ) (there : class P m < length P.classes) where
  abbrev c : ℕ
  c = class P m

  -- the arguments of a constructor's call
  args_valued : (st : LState) (k : ℕ) (own : Bool) (es : PlacedTrees) (span : Span) → ScopeIn P st.scope → (o : Option ℕ) → constructor_of P k (count es) ≡ o → rows_of_all P c no_this st.scope es ++ ctor_rows P c o span ≡ [] → Final P b first (arguments P m first (fresh st) es).behind → Clean P b (called_ctor P m first o own span (arguments P m first (fresh st) es)) → AllValued P c st.scope es
  args_valued st k own es span s None e h fin n = let p = append_none (rows_of_all P c no_this st.scope es) (ctor_rows P c None span) h in let q = p.1 in cc
  args_valued st k own es span s (Some x) e h fin n =
      let vs : Operands = arguments P m first (fresh st) es in
      let p = append_none (rows_of_all P c no_this st.scope es) (ctor_rows P c (Some x) span) h in
      let q = then_clean P b vs.fragment (does span (CtorCall (method_no x) vs.values own)) n in
      let r = ctor_found P k (count es) x e in
      arguments_of P H b first c there no_this st.scope s es (fresh st).temporaries p.0 fin q.0
      (arguments_read P b (params_of (method_at P x)) vs.values (counted P H b first c there no_this st.scope s (fresh st).temporaries es ∙ sym (ap (λ o. length (params_of o)) r.1 ∙ r.3)) q.1.clear.0)

  construction_valued : (st : LState) (xs : PlacedStatements) → ScopeIn P st.scope → construction_rows P m st xs ≡ [] → Final P b first (construction P m first st xs).behind.temporaries → Clean P b (construction P m first st xs).fragment → ConstructionValued P m st.scope xs
  construction_valued st (MorePlacedStatements (PlacedThisCall es span) xs) s h fin n = args_valued st c true es span s (constructor_of P c (count es)) refl h fin n
  construction_valued st (MorePlacedStatements (PlacedSuperCallStatement es span) xs) s h fin n = args_valued st (parent P m) false es span s (constructor_of P (parent P m) (count es)) refl h fin n
  construction_valued st NoPlacedStatements s h fin n = tt
  construction_valued st (MorePlacedStatements (PlacedBlock a b) xs) s h fin n = tt
  construction_valued st (MorePlacedStatements (PlacedEmpty a) xs) s h fin n = tt
  construction_valued st (MorePlacedStatements (PlacedExpression a b) xs) s h fin n = tt
  construction_valued st (MorePlacedStatements (PlacedBreak a) xs) s h fin n = tt
  construction_valued st (MorePlacedStatements (PlacedContinue a) xs) s h fin n = tt
  construction_valued st (MorePlacedStatements (PlacedReturn a b) xs) s h fin n = tt
  construction_valued st (MorePlacedStatements (PlacedLocalStatement a b) xs) s h fin n = tt
  construction_valued st (MorePlacedStatements (PlacedIf a b d) xs) s h fin n = tt
  construction_valued st (MorePlacedStatements (PlacedIfElse a b d e) xs) s h fin n = tt
  construction_valued st (MorePlacedStatements (PlacedWhile a b d) xs) s h fin n = tt
  construction_valued st (MorePlacedStatements (PlacedDo a b d) xs) s h fin n = tt
  construction_valued st (MorePlacedStatements (PlacedFor a b d e g) xs) s h fin n = tt
  construction_valued st (MorePlacedStatements (PlacedForEach a b d e g i) xs) s h fin n = tt

  -- initializers of fields

  none_in : ScopeIn P []
  none_in n l h = cc

  kept_by : (st : LState) (e : PlacedTree) → Grows P st.temporaries (initializer_value P m first st e).behind
  kept_by st e = grows_on P st.temporaries (fresh st).temporaries (initializer_value P m first st e).behind (grows_self P st.temporaries (fresh st).temporaries refl) (all_grow P H c there first [] none_in (fresh st).temporaries e).value

  abbrev written_by : Option ℕ → Span → LState → PlacedTree → Step
  written_by o name st e = writes_field P m first o name st e

  -- what one leaves, and what it says
  pub record Initial (st : LState) (x : Step) (V : Type 0) : Type 0 where
    pub keeps : Grows P st.temporaries x.behind.temporaries
    pub valued : Final P b first x.behind.temporaries → Clean P b x.fragment → V

  field_initial : (o : Option ℕ) (name : Span) (st : LState) (e : PlacedTree) → field_rows P m o e ≡ [] → Initial st (writes_field P m first o name st e) (FieldInitialized P m o e)
  field_initial None name st e h = record { keeps = grows_self P st.temporaries st.temporaries refl; valued = λ fin k. tt }
  field_initial (Some f) name st e h = by (is_static P f) h
    where
      v : Lowered
      v = initializer_value P m first st e

      kind : PointKind
      kind = FieldWrite (this_operand name) (field_no f) v.operand

      written : Step
      written = back st (step (with_temporaries st v.behind) (then v.fragment (does (through name (span_of e)) kind)))

      value_read : type_rows P b kind ≡ [] → HasValue P b v.operand
      value_read z = let p = append_none (operand_rows P b (Within (Ref (record { 0 = owner P f }))) (this_operand name)) (operand_rows P b (Within (field_base P f)) v.operand) z in read_value P b (Within (field_base P f)) v.operand p.1

      by : (x : Bool) → when (not x) (rows_of P c in_initializer [] e) ≡ [] → Initial st (cond x (no_step st) written) (KindInitialized P m x e)
      by true h = record { keeps = grows_self P st.temporaries st.temporaries refl; valued = λ fin k. tt }
      by false h = record {
        keeps = grows_on P st.temporaries v.behind written.behind.temporaries (kept_by st e) (grows_self P v.behind written.behind.temporaries refl);
        valued = λ fin k. (let q = then_clean P b v.fragment (does (through name (span_of e)) kind) k in
            value_of P H b first c there in_initializer [] none_in e (fresh st).temporaries h fin q.0 (value_read q.1.clear.0));
      }

  one_initial : (name : Span) (n : ℕ) (st : LState) (o : Option PlacedTree) → initializer_rows P m n o ≡ [] → Initial st (initializes P m first name n st o) (OptionalInitialized P m n o)
  one_initial name n st None h = record { keeps = grows_self P st.temporaries st.temporaries refl; valued = λ fin k. tt }
  one_initial name n st (Some e) h = field_initial (declared_field P c n c) name st e h

  declarators_initial : (st : LState) (ds : List PlacedDeclarator) → initializers_rows P m ds ≡ [] → Initial st (initializers_of P m first st ds) (DeclaratorsInitialized P m ds)
  declarators_initial st [] h = record { keeps = grows_self P st.temporaries st.temporaries refl; valued = λ fin k. tt }
  declarators_initial st (d ∷ ds) h =
      let x : Step = initializes P m first d.name.span d.name.name.0 st d.value in
      let y : Step = initializers_of P m first x.behind ds in
      let p = append_none (initializer_rows P m d.name.name.0 d.value) (initializers_rows P m ds) h in
      let f = one_initial d.name.span d.name.name.0 st d.value p.0 in
      let g = declarators_initial x.behind ds p.1 in
      record {
        keeps = grows_on P st.temporaries x.behind.temporaries y.behind.temporaries f.keeps g.keeps;
        valued = λ fin k. (let q = then_clean P b x.fragment y.fragment k in (f.valued (final_before P b first x.behind.temporaries y.behind.temporaries g.keeps fin) q.0, g.valued fin q.1));
      }

  members_initial : (st : LState) (xs : List PlacedMember) → member_rows P m xs ≡ [] → Initial st (initializers P m first st xs) (MembersInitialized P m xs)
  members_initial st [] h = record { keeps = grows_self P st.temporaries st.temporaries refl; valued = λ fin k. tt }
  members_initial st (z ∷ xs) h =
      let x : Step = initializers_of P m first st (declarators_of z) in
      let y : Step = initializers P m first x.behind xs in
      let p = append_none (initializers_rows P m (declarators_of z)) (member_rows P m xs) h in
      let f = declarators_initial st (declarators_of z) p.0 in
      let g = members_initial x.behind xs p.1 in
      record {
        keeps = grows_on P st.temporaries x.behind.temporaries y.behind.temporaries f.keeps g.keeps;
        valued = λ fin k. (let q = then_clean P b x.fragment y.fragment k in (f.valued (final_before P b first x.behind.temporaries y.behind.temporaries g.keeps fin) q.0, g.valued fin q.1));
      }

-- an element at its index
index_is : (xs : List BaseType) (n : ℕ) (x d : BaseType) → slice_get xs n ≡ Some x → slice_index_or xs n d ≡ x
index_is [] n x d h = cc
index_is (y ∷ ys) zero x d h = cc
index_is (y ∷ ys) (suc n) x d h = index_is ys n x d h

-- a body
module _ (P : Program) (H : Heads P) (s : Source) (x : Method) (method_is : method_at P s.method ≡ Some x) (b : ℕ) (body_is : body_at P b ≡ Some (body_of_source P s)) (typed : NoBaseRows P) (rowless : rows_of_source P s ≡ []) where
  abbrev m : ℕ
  m = s.method

  abbrev first : ℕ
  first = local_count P m s.body

  abbrev entry : LState
  entry = at_entry P m s.parameters

  abbrev call : Step
  call = call_of P m first (ctor_of (method_at P m)) entry s.body

  abbrev fields : Step
  fields = fields_of P m first (ctor_of (method_at P m)) call.behind s.body s.members

  abbrev rest : Step
  rest = statements P (class P m) first fields.behind s.body

  inside : class P m < length P.classes
  inside = class_there P H s x method_is

  -- its points

  no_row : (p : ℕ) (pt : Point) → point_at P b p ≡ Some pt → (rows : List Row) → type_rows P b pt.kind ≡ rows → type_rows P b pt.kind ≡ []
  no_row p pt at [] e = e
  no_row p pt at (r ∷ rows) e = absurd (typed r (inl (record { b = b; p = p; pt = pt; there = at; broken = subst (λ z. Contains z r) (sym e) (0, omega arith, refl) })))

  clear : Clear P b ((code_of P s).fragment.points 0 0 0)
  clear = clear_points P b ((code_of P s).fragment.points 0 0 0) (λ p pt e. no_row p pt (ap (λ o. slice_get (points_of o) p) body_is ∙ e) (type_rows P b pt.kind) refl)

  clean : Clean P b (code_of P s).fragment
  clean = record { start = 0; first = 0; second = 0; clear = clear }

  laid : Clean P b call.fragment × (Clean P b fields.fragment × (Clean P b rest.fragment × (Clean P b (does (name_span P m) (Return None)) × Unit {0})))
  laid = parts_clean P b (
      to call.fragment (Part 0) (Part 0)
      ∷ to fields.fragment (Part 1) (Part 1)
      ∷ to rest.fragment (Part 3) (Part 3)
      ∷ to (does (name_span P m) (Return None)) (Part 3) (Part 3)
      ∷ []) clean

  -- its temporaries

  final : Final P b first rest.behind.temporaries
  final i t e = ap (λ o. base_in o (first + i)) body_is ∙ index_is (registers_of rest.behind) (first + i) t Void (get_right rest.behind.locals rest.behind.temporaries.bases (first + i) i (let a : length rest.behind.locals ≡ first = locals_counted P H s x method_is in omega (a, arith)) ∙ e)

  -- its parameters

  given_there : (i : ℕ) (t : BaseType) → slice_get (params_of (method_at P m)) i ≡ Some t → slice_get (given_bases P m) (first_parameter P m + i) ≡ Some t
  given_there i t h = by (static_of (method_at P m))
    where
      by : (z : Bool) → slice_get (cond z (params_of (method_at P m)) (Ref (record { 0 = class_of (method_at P m) }) ∷ params_of (method_at P m))) (cond z 0 1 + i) ≡ Some t
      by true = let e : i ≡ 0 + i = omega arith in subst (λ z. slice_get (params_of (method_at P m)) z ≡ Some t) e h
      by false = let e : suc i ≡ 1 + i = omega arith in subst (λ z. slice_get (Ref (record { 0 = class_of (method_at P m) }) ∷ params_of (method_at P m)) z ≡ Some t) e h

  entry_in : ScopeIn P entry.scope
  entry_in n l h =
      let q = parameter_there (first_parameter P m) s.parameters (params_of (method_at P m)) n l h in
      all_in P H s x method_is (first_parameter P m + q.0) l.base (held_given P H s x method_is (first_parameter P m + q.0) l.base (given_there q.0 l.base q.1))

  -- its parts

  on_call : Onward P entry call.behind 0
  on_call = call_on P H m inside first (ctor_of (method_at P m)) entry s.body entry_in

  on_fields : Onward P call.behind fields.behind 0
  on_fields = fields_on P H m inside first (ctor_of (method_at P m)) call.behind s.body s.members on_call.scope

  on_rest : Onward P fields.behind rest.behind (all_declared s.body)
  on_rest = statements_on P H (class P m) inside first fields.behind s.body on_fields.scope

  final_fields : Final P b first fields.behind.temporaries
  final_fields = final_before P b first fields.behind.temporaries rest.behind.temporaries on_rest.temps final

  final_call : Final P b first call.behind.temporaries
  final_call = final_before P b first call.behind.temporaries fields.behind.temporaries on_fields.temps final_fields

  abbrev begun : List Row
  begun = construction_rows P m entry s.body ++ when (not (calls_own s.body)) (member_rows P m s.members)

  rows : (when (ctor_of (method_at P m)) begun ≡ []) × (all_rows P (class P m) first (in_body P m) fields.behind s.body ≡ [])
  rows = append_none (when (ctor_of (method_at P m)) begun) (all_rows P (class P m) first (in_body P m) fields.behind s.body) rowless

  begins : (z : Bool) → when z begun ≡ [] → (let y : Step = call_of P m first z entry s.body in let w : Step = fields_of P m first z y.behind s.body s.members in Final P b first y.behind.temporaries → Clean P b y.fragment → Final P b first w.behind.temporaries → Clean P b w.fragment → BeginsValued P m z entry.scope s.body s.members)
  begins false h f k g l = tt
  begins true h f k g l =
      let p = append_none (construction_rows P m entry s.body) (when (not (calls_own s.body)) (member_rows P m s.members)) h in
      (construction_valued P H b m first inside entry s.body entry_in p.0 f k, members (calls_own s.body) p.1 g l)
    where
      y : Step
      y = construction P m first entry s.body

      members : (z : Bool) → when (not z) (member_rows P m s.members) ≡ [] → Final P b first (cond z (no_step y.behind) (initializers P m first y.behind s.members)).behind.temporaries → Clean P b (cond z (no_step y.behind) (initializers P m first y.behind s.members)).fragment → z ≡ false → MembersInitialized P m s.members
      members true h g l e = cc
      members false h g l e = (members_initial P H b m first inside y.behind s.members h).valued g l

  same : standing fields.behind ≡ standing entry
  same = fields_of_stand P first m (ctor_of (method_at P m)) call.behind s.body s.members ∙ call_of_stands P first m (ctor_of (method_at P m)) entry s.body

  pub body_valued : BodyValued P m s.parameters s.body s.members
  body_valued = (begins (ctor_of (method_at P m)) rows.0 final_call laid.0 final_fields laid.1.0, all_valued P H b first (class P m) inside (in_body P m) fields.behind (standing entry) same on_fields.scope s.body rows.1 final laid.1.1.0)

-- all bodies: no premise on values is left
pub all_values : (P : Program) (sources : List Source) → Regular P → NoBaseRows P → Sourced P sources → ((b : ℕ) (s : Source) → slice_get sources b ≡ Some s → rows_of_source P s ≡ []) → AllValuing P sources
all_values P sources H typed sourced none m b s body there =
    let q = sourced.each m b body in
    let same : q.0 ≡ s = same_source q.0 s (sym q.1 ∙ there) in
    subst (λ z. BodyValued P z.method z.parameters z.body z.members) same (by q.0 (method_at P q.0.method) refl (subst (λ n. body_of (method_at P n) ≡ Some b) (sym q.2) body) q.3 (subst (λ z. rows_of_source P z ≡ []) (sym same) (none b s there)))
  where
    same_source : (s t : Source) → Some s ≡ Some t → s ≡ t
    same_source s t e = cc

    nothing : None ≡ Some b → ⊥
    nothing e = cc

    by : (z : Source) (o : Option Method) → method_at P z.method ≡ o → body_of (method_at P z.method) ≡ Some b → body_at P b ≡ Some (body_of_source P z) → rows_of_source P z ≡ [] → BodyValued P z.method z.parameters z.body z.members
    by z None e i k h = absurd (nothing (sym (ap body_of e) ∙ i))
    by z (Some x) e i k h = body_valued P (heads_in P H) z x e b k typed h
