-- Supertypes and members don't look at bodies and slots: an index of a program is one of each program with the same classes, fields and methods.
use Rattle.std.proofs.Common.{◌≡◌, ◌<◌, ◌^◌, ℕ, zero, suc, true, not, ◌||◌, ◌&&◌, List, ◌∷◌, ◌++◌, length, Option, Some, None, Bool, refl, sym, ap, ◌∙◌, subst, eqb}
use Rattle.std.specs.Prelude.{flat_map, filter, slice_get}
use Rattle.jn_base.specs.declared.number.ClassNo.{ClassNo}
use Rattle.jn_points.specs.declared.program.Field.{Field}
use Rattle.jn_points.specs.declared.program.Method.{Method}
use Rattle.jn_points.specs.declared.program.Program.{Program}
use Rattle.jn_points.specs.Lookup.{parent_of, supers_of, class_info}
use Rattle.jn_points.specs.Members.{some_of, first_some, first_at, is_class, is_named, reaches, interfaces, walk, walk_parent, walk_by}
use Rattle.jn_member_tables.specs.Numbers.{list_at, places_of, contains, first_in, passes}
use Rattle.jn_member_tables.specs.Along.{IsWalk}
use Rattle.jn_member_tables.specs.Tables.{find_in}
use Rattle.jn_index.specs.Entries.{open_method, open_field, method_key, field_key}
use Rattle.jn_index.specs.Busy.{is_busy}
use Rattle.jn_index.specs.Index.{owners, field_owners, names, field_names, class_names, Lists, IsIndex}

each : {A : Type 0} (f g : ℕ → A) → ((c : ℕ) → f c ≡ g c) → ◌≡◌ {A = ClassNo → A} (λ s. f s.0) (λ s. g s.0)
each f g h = λ i s. h s.0 i

module _ (P Q : Program) (classes : P.classes ≡ Q.classes) where
  info_same : (c : ℕ) → class_info P c ≡ class_info Q c
  info_same c = ap (λ cs. slice_get cs c) classes

  parent_same : (f g : ℕ → List ℕ) → ((c : ℕ) → f c ≡ g c) → (o : Option ClassNo) → walk_parent P f o ≡ walk_parent Q g o
  parent_same f g h None = refl
  parent_same f g h (Some p) = h p.0

  walk_same : (n c : ℕ) → walk_by P n c ≡ walk_by Q n c
  walk_same zero c = refl
  walk_same (suc n) c =
      ap (λ o. c ∷ walk_parent P (walk_by P n) (parent_of o) ++ flat_map (λ (s : ClassNo). walk_by P n s.0) (filter (λ (s : ClassNo). not (is_class (parent_of o) s)) (supers_of o))) (info_same c)
      ∙ (ap (λ l. c ∷ l ++ flat_map (λ (s : ClassNo). walk_by P n s.0) (interfaces Q c)) (parent_same (walk_by P n) (walk_by Q n) (walk_same n) (parent_of (class_info Q c)))
      ∙ ap (λ (f : ClassNo → List ℕ). c ∷ walk_parent Q (walk_by Q n) (parent_of (class_info Q c)) ++ flat_map f (interfaces Q c)) (each (walk_by P n) (walk_by Q n) (walk_same n)))

  reach_same : (n c d : ℕ) → reaches P n c d ≡ reaches Q n c d
  reach_same zero c d = refl
  reach_same (suc n) c d =
      ap (λ o. eqb c d || some_of (λ (s : ClassNo). reaches P n s.0 d) (supers_of o)) (info_same c)
      ∙ ap (λ (f : ClassNo → Bool). eqb c d || some_of f (supers_of (class_info Q c))) (each (λ s. reaches P n s d) (λ s. reaches Q n s d) (λ s. reach_same n s d))

  same_walk : (i c : ℕ) (xs : List ℕ) → IsWalk P i c xs → IsWalk Q i c xs
  same_walk i c xs w = record {
    first = λ f k le. sym (ap (first_some f) (walk_same k c)) ∙ w.first f k le;
    reach = λ d k le. sym (reach_same k c d) ∙ w.reach d k le;
  }

  -- walks of as many steps as there are classes
  whole : (c : ℕ) → walk P c ≡ walk Q c
  whole c = walk_same (length P.classes) c ∙ ap (λ n. walk_by Q n c) (ap length classes)

  same_contains : (c d : ℕ) → contains (walk P c) d ≡ contains (walk Q c) d
  same_contains c d = ap (λ xs. contains xs d) (whole c)

  module _ (fields : P.fields ≡ Q.fields) (methods : P.methods ≡ Q.methods) (x : Lists) (is : IsIndex P x) where
    inside : (c : ℕ) → c < length Q.classes → c < length P.classes
    inside c lt = subst (λ cs. c < length cs) (sym classes) lt

    steady : (c : ℕ) → c < length Q.classes → IsWalk Q (length Q.classes) c (walk Q c)
    steady c lt = subst (λ n. IsWalk Q n c (walk Q c)) (ap length classes) (subst (IsWalk Q (length P.classes) c) (whole c) (same_walk (length P.classes) c (walk P c) (is.classes_are.steady c (inside c lt))))

    -- busy classes and keys are told by methods
    busy_same : (d : ℕ) → is_busy P x.own x.named d ≡ is_busy Q x.own x.named d
    busy_same d = ap (λ ms. busy_by ms d) methods
      where
        busy_by : List Method → ℕ → Bool
        busy_by ms d = some_of (λ k. passes (λ (m : Method). m.is_abstract || (not m.ctor && some_of (λ j. not (eqb k j) && passes (λ y. is_named y m.name.0 (length m.params)) (slice_get ms j)) (list_at x.named m.name.0))) (slice_get ms k)) (list_at x.own d)

    key_same : (name arity : ℕ) → method_key P x.named name arity ≡ method_key Q x.named name arity
    key_same name arity = ap (λ ms. first_in (λ k. passes (λ (m : Method). is_named m name arity) (slice_get ms k)) (list_at x.named name)) methods

    field_key_same : (name : ℕ) → field_key P x.named_fields name ≡ field_key Q x.named_fields name
    field_key_same name = ap (λ fs. first_in (λ k. passes (λ (f : Field). eqb f.name.0 name) (slice_get fs k)) (list_at x.named_fields name)) fields

    methods_same : (c name arity key : ℕ) → c < length Q.classes → method_key Q x.named name arity ≡ Some key → find_in x.methods c key ≡ first_some (open_method Q name arity) (walk Q c)
    methods_same c name arity key lt is_key =
        is.methods_are c name arity key (inside c lt) (key_same name arity ∙ is_key)
        ∙ (ap (λ ms. first_some (λ d. first_at (λ (m : Method). is_named m name arity && eqb m.owner.0 d && not m.is_private) 0 ms) (walk P c)) methods
        ∙ ap (first_some (open_method Q name arity)) (whole c))

    fields_same : (c name key : ℕ) → c < length Q.classes → field_key Q x.named_fields name ≡ Some key → find_in x.fields c key ≡ first_some (open_field Q name) (walk Q c)
    fields_same c name key lt is_key =
        is.open_fields_are c name key (inside c lt) (field_key_same name ∙ is_key)
        ∙ (ap (λ fs. first_some (λ d. first_at (λ (f : Field). eqb f.name.0 name && eqb f.owner.0 d && not f.is_private) 0 fs) (walk P c)) fields
        ∙ ap (first_some (open_field Q name)) (whole c))

    pub same_index : IsIndex Q x
    same_index = record {
      own_is = λ d. is.own_is d ∙ ap (λ ms. places_of d 0 (owners ms)) methods;
      fields_are = λ d. is.fields_are d ∙ ap (λ fs. places_of d 0 (field_owners fs)) fields;
      constructors_are = λ d. is.constructors_are d ∙ ap (λ ms. filter (λ k. passes (λ (m : Method). m.ctor) (slice_get ms k)) (list_at x.own d)) methods;
      named_is = λ n. is.named_is n ∙ ap (λ ms. places_of n 0 (names ms)) methods;
      named_fields_are = λ n. is.named_fields_are n ∙ ap (λ fs. places_of n 0 (field_names fs)) fields;
      named_classes_are = λ n. is.named_classes_are n ∙ ap (λ cs. places_of n 0 (class_names cs)) classes;
      classes_are = record {
        steady = steady;
        within = λ c d lt h. subst (λ cs. d < length cs) classes (is.classes_are.within c d (inside c lt) (same_contains c d ∙ h));
        found = λ c d lt low. is.classes_are.found c d (inside c lt) (inside d low) ∙ same_contains c d;
      };
      methods_are = methods_same;
      open_fields_are = fields_same;
      few = subst (λ cs. length cs < 2 ^ 32) classes is.few;
      walks_have = λ c d lt busy h. is.walks_have c d (inside c lt) (busy_same d ∙ busy) (same_contains c d ∙ h);
      under_has = λ c d lt busy h. is.under_has c d (inside c lt) (busy_same d ∙ busy) (same_contains c d ∙ h);
    }
