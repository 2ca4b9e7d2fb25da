-- Steps of the walk along supertypes.
use Rattle.std.proofs.Common.{◌≡◌, ℕ, zero, suc, ◌-◌, ◌<◌, ◌++◌, ◌∷◌, [], ◌||◌, true, false, not, eqb, List, Option, Some, None, refl, ap, sym, ◌∙◌, arith, ◌+◌, length, drop, get_or}
use Rattle.std.proofs.lemmas.List.{at_drop_more}
use Rattle.std.specs.Prelude.{filter, flat_map}
use Rattle.jn_base.specs.declared.number.ClassNo.{ClassNo}
use Rattle.jn_points.specs.declared.program.Class.{Class}
use Rattle.jn_points.specs.declared.program.Program.{Program}
use Rattle.jn_points.specs.Lookup.{class_info, supers_of, parent_of}
use Rattle.jn_points.specs.Members.{some_of, reaches, first_or, first_some, walk_parent, walk_by, is_class, interfaces}

pub reaches_more : (P : Program) (n c d : ℕ) → 0 < n → reaches P n c d ≡ (eqb c d || some_of (λ s. reaches P (n - 1) s.0 d) (supers_of (class_info P c)))
reaches_more P zero c d lt = absurd (omega arith)
reaches_more P (suc n) c d lt = let e : suc n - 1 ≡ n = omega arith in rw e refl

pub first_or_assoc : (a b c : Option ℕ) → first_or a (first_or b c) ≡ first_or (first_or a b) c
first_or_assoc None b c = refl
first_or_assoc (Some n) b c = refl

pub first_some_append : (f : ℕ → Option ℕ) (xs ys : List ℕ) → first_some f (xs ++ ys) ≡ first_or (first_some f xs) (first_some f ys)
first_some_append f [] ys = refl
first_some_append f (x ∷ xs) ys = ap (first_or (f x)) (first_some_append f xs ys) ∙ first_or_assoc (f x) (first_some f xs) (first_some f ys)

-- the first that is found along the walks of the classes that aren't the parent
abbrev pub along : Program → (ℕ → Option ℕ) → ℕ → Option ClassNo → List ClassNo → Option ℕ
along P f k parent ss = first_some f (flat_map (λ s. walk_by P k s.0) (filter (λ s. not (is_class parent s)) ss))

pub along_parent : (P : Program) (f : ℕ → Option ℕ) (k : ℕ) (parent : Option ClassNo) (s : ClassNo) (ss : List ClassNo) → is_class parent s ≡ true → along P f k parent (s ∷ ss) ≡ along P f k parent ss
along_parent P f k parent s ss e = rw e refl

pub along_interface : (P : Program) (f : ℕ → Option ℕ) (k : ℕ) (parent : Option ClassNo) (s : ClassNo) (ss : List ClassNo) → is_class parent s ≡ false → along P f k parent (s ∷ ss) ≡ first_or (first_some f (walk_by P k s.0)) (along P f k parent ss)
along_interface P f k parent s ss e = rw e (first_some_append f (walk_by P k s.0) (flat_map (λ t. walk_by P k t.0) (filter (λ t. not (is_class parent t)) ss)))

pub walk_more : (P : Program) (f : ℕ → Option ℕ) (n d : ℕ) → 0 < n → first_some f (walk_by P n d) ≡ first_or (f d) (first_or (first_some f (walk_parent P (walk_by P (n - 1)) (parent_of (class_info P d)))) (along P f (n - 1) (parent_of (class_info P d)) (supers_of (class_info P d))))
walk_more P f zero d lt = absurd (omega arith)
walk_more P f (suc n) d lt = let e : suc n - 1 ≡ n = omega arith in rw e (ap (first_or (f d)) (first_some_append f (walk_parent P (walk_by P n) (parent_of (class_info P d))) (flat_map (λ s. walk_by P n s.0) (interfaces P d))))

-- after a class that declares none
walk_on : (P : Program) (f : ℕ → Option ℕ) (n d : ℕ) (k : Class) → 0 < n → f d ≡ None → class_info P d ≡ Some k → first_some f (walk_by P n d) ≡ first_or (first_some f (walk_parent P (walk_by P (n - 1)) k.parent)) (along P f (n - 1) k.parent k.supers)
walk_on P f n d k lt none at = walk_more P f n d lt ∙ rw (none, at) refl

pub walk_parent_found : (P : Program) (f : ℕ → Option ℕ) (n d m : ℕ) (k : Class) (p : ClassNo) → 0 < n → f d ≡ None → class_info P d ≡ Some k → k.parent ≡ Some p → first_some f (walk_by P (n - 1) p.0) ≡ Some m → first_some f (walk_by P n d) ≡ Some m
walk_parent_found P f n d m k p lt none at parent found = walk_on P f n d k lt none at ∙ rw (parent, found) refl

pub walk_rest : (P : Program) (f : ℕ → Option ℕ) (n d : ℕ) (k : Class) (p : ClassNo) → 0 < n → f d ≡ None → class_info P d ≡ Some k → k.parent ≡ Some p → first_some f (walk_by P (n - 1) p.0) ≡ None → along P f (n - 1) k.parent k.supers ≡ first_some f (walk_by P n d)
walk_rest P f n d k p lt none at parent found = sym (walk_on P f n d k lt none at ∙ rw (parent, found) refl)

pub walk_orphan : (P : Program) (f : ℕ → Option ℕ) (n d : ℕ) (k : Class) → 0 < n → f d ≡ None → class_info P d ≡ Some k → k.parent ≡ None → along P f (n - 1) k.parent k.supers ≡ first_some f (walk_by P n d)
walk_orphan P f n d k lt none at parent = sym (walk_on P f n d k lt none at ∙ rw parent refl)

pub along_found : (P : Program) (f : ℕ → Option ℕ) (k : ℕ) (parent : Option ClassNo) (ss : List ClassNo) (i : ℕ) (d : ClassNo) (m : ℕ) → i < length ss → is_class parent (get_or ss i d) ≡ false → first_some f (walk_by P k (get_or ss i d).0) ≡ Some m → along P f k parent (drop i ss) ≡ Some m
along_found P f k parent ss i d m lt other found = at_drop_more (along P f k parent) ss i d lt ∙ along_interface P f k parent (get_or ss i d) (drop (i + 1) ss) other ∙ rw found refl

pub along_missed : (P : Program) (f : ℕ → Option ℕ) (k : ℕ) (parent : Option ClassNo) (ss : List ClassNo) (i : ℕ) (d : ClassNo) → i < length ss → is_class parent (get_or ss i d) ≡ false → first_some f (walk_by P k (get_or ss i d).0) ≡ None → along P f k parent (drop i ss) ≡ along P f k parent (drop (i + 1) ss)
along_missed P f k parent ss i d lt other found = at_drop_more (along P f k parent) ss i d lt ∙ along_interface P f k parent (get_or ss i d) (drop (i + 1) ss) other ∙ rw found refl
