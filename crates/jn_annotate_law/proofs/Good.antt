-- Annotated trees are well formed.
use Rattle.std.proofs.Common.{◌≡◌, Bool, true, false, not, ◌&&◌, List, [], ◌∷◌, ◌++◌, refl, ap, ◌∙◌, subst}
use Rattle.std.specs.Prelude.{drop, map, Option, Some, None}
use Rattle.std.proofs.lemmas.Bool.{and_parts, false≢true}
use Rattle.std.proofs.lemmas.List.{append-nil}
use Rattle.jn_base.specs.declared.number.NameNo.{NameNo}
use Rattle.jn_base.specs.declared.number.SlotNo.{SlotNo}
use Rattle.jn_quals.specs.Qualifier.{Qualifier}
use Rattle.jn_points.specs.declared.program.Field.{Field}
use Rattle.jn_points.specs.declared.program.Method.{Method}
use Rattle.jn_points.specs.declared.program.SlotInfo.{SlotInfo}
use Rattle.jn_trees.specs.declared.context.Owner.{Owner}
use Rattle.jn_trees.specs.Trees.{TypeUseTree, LocalMark, AnnotationMark, FinalMark, Mark, NoteMark, PublicMark, ProtectedMark, PrivateMark, StaticMark, ConstantMark, AbstractMark, ParameterTree, ReceiverTree, MemberTree, FieldMember, MethodMember, ConstructorMember, TypeDeclaration, ClassType, InterfaceType, SourceTree}
use Rattle.jn_trees.specs.WellFormed.{no_final, final_once, clashes, clashes_none, no_clash, every, marks_field, marks_method, marks_interface_method, GoodMarks, has_static, GoodParameters, GoodReceiver, GoodMethodMarks, GoodMember, GoodMembers, GoodType, GoodTypes, GoodFile}
use Rattle.jn_annotate.specs.Insertions.{fields_in, methods_in, type_fields, type_methods, first_slot, inferred_qual}
use Rattle.jn_annotate_law.specs.Trees.{nullity_names, names_of, leading, noted_receiver, noted_result_marks, both_at, noted_parameters, noted_member, noted_members, noted_type, noted_types, noted_file}
use Rattle.jn_annotate_law.specs.Fits.{MemberFits, MembersFit, TypeFits, TypesFit}

-- ---- marks

every_on : (may : Mark → Bool) (ms : List Mark) (ns : List NameNo) → ((n : NameNo) → may (NoteMark n) ≡ true) → every may ms ≡ true → every may (ms ++ map NoteMark ns) ≡ true
every_on may [] [] f h = refl
every_on may [] (n ∷ ns) f h = ap (λ b. b && every may (map NoteMark ns)) (f n) ∙ every_on may [] ns f refl
every_on may (m ∷ ms) ns f h = let p = and_parts (may m) (every may ms) h in ap (λ b. b && every may (ms ++ map NoteMark ns)) p.0 ∙ every_on may ms ns f p.1

no_note : (m : Mark) (n : NameNo) → clashes m (NoteMark n) ≡ false
no_note (NoteMark k) n = refl
no_note PublicMark n = refl
no_note ProtectedMark n = refl
no_note PrivateMark n = refl
no_note StaticMark n = refl
no_note ConstantMark n = refl
no_note AbstractMark n = refl

none_notes : (m : Mark) (ns : List NameNo) → clashes_none m (map NoteMark ns) ≡ true
none_notes m [] = refl
none_notes m (n ∷ ns) = ap (λ b. not b && clashes_none m (map NoteMark ns)) (no_note m n) ∙ none_notes m ns

none_on : (m : Mark) (ms : List Mark) (ns : List NameNo) → clashes_none m ms ≡ true → clashes_none m (ms ++ map NoteMark ns) ≡ true
none_on m [] ns h = none_notes m ns
none_on m (k ∷ ms) ns h = let p = and_parts (not (clashes m k)) (clashes_none m ms) h in ap (λ b. b && clashes_none m (ms ++ map NoteMark ns)) p.0 ∙ none_on m ms ns p.1

note_free : (n : NameNo) (ms : List Mark) → clashes_none (NoteMark n) ms ≡ true
note_free n [] = refl
note_free n (m ∷ ms) = note_free n ms

notes_clash : (ns : List NameNo) → no_clash (map NoteMark ns) ≡ true
notes_clash [] = refl
notes_clash (n ∷ ns) = ap (λ b. b && no_clash (map NoteMark ns)) (note_free n (map NoteMark ns)) ∙ notes_clash ns

clash_on : (ms : List Mark) (ns : List NameNo) → no_clash ms ≡ true → no_clash (ms ++ map NoteMark ns) ≡ true
clash_on [] ns h = notes_clash ns
clash_on (m ∷ ms) ns h = let p = and_parts (clashes_none m ms) (no_clash ms) h in ap (λ b. b && no_clash (ms ++ map NoteMark ns)) (none_on m ms ns p.0) ∙ clash_on ms ns p.1

marks_on : (may : Mark → Bool) (ms : List Mark) (ns : List NameNo) → ((n : NameNo) → may (NoteMark n) ≡ true) → GoodMarks may ms → GoodMarks may (ms ++ map NoteMark ns)
marks_on may ms ns f h = (every_on may ms ns f h.0, clash_on ms ns h.1)

static_notes : (ns : List NameNo) → has_static (map NoteMark ns) ≡ false
static_notes [] = refl
static_notes (n ∷ ns) = static_notes ns

static_on : (ms : List Mark) (ns : List NameNo) → has_static (ms ++ map NoteMark ns) ≡ has_static ms
static_on [] ns = static_notes ns
static_on (NoteMark k ∷ ms) ns = static_on ms ns
static_on (PublicMark ∷ ms) ns = static_on ms ns
static_on (ProtectedMark ∷ ms) ns = static_on ms ns
static_on (PrivateMark ∷ ms) ns = static_on ms ns
static_on (StaticMark ∷ ms) ns = refl
static_on (ConstantMark ∷ ms) ns = static_on ms ns
static_on (AbstractMark ∷ ms) ns = static_on ms ns

result_marks_on : (P : List Mark → Type 0) (names : List NameNo) (u : Option TypeUseTree) (ms : List Mark) → ((ns : List NameNo) → P (ms ++ map NoteMark ns)) → P (noted_result_marks names u ms)
result_marks_on P names None ms f = subst P (append-nil ms) (f [])
result_marks_on P names (Some u) ms f = f (leading names u.array)

method_marks : (interface : Bool) (ms : List Mark) (ns : List NameNo) → GoodMethodMarks interface ms → GoodMethodMarks interface (ms ++ map NoteMark ns)
method_marks true ms ns h = marks_on marks_interface_method ms ns (λ n. refl) h
method_marks false ms ns h = marks_on marks_method ms ns (λ n. refl) h

-- ---- parameters

no_final_on : (ms : List LocalMark) (ns : List NameNo) → no_final ms ≡ true → no_final (ms ++ map AnnotationMark ns) ≡ true
no_final_on [] [] h = refl
no_final_on [] (n ∷ ns) h = no_final_on [] ns refl
no_final_on (AnnotationMark m ∷ ms) ns h = no_final_on ms ns h
no_final_on (FinalMark ∷ ms) ns h = absurd (false≢true h)

final_on : (ms : List LocalMark) (ns : List NameNo) → final_once ms ≡ true → final_once (ms ++ map AnnotationMark ns) ≡ true
final_on [] [] h = refl
final_on [] (n ∷ ns) h = final_on [] ns refl
final_on (AnnotationMark m ∷ ms) ns h = final_on ms ns h
final_on (FinalMark ∷ ms) ns h = no_final_on ms ns h

module _ (slots : List SlotInfo) (s : List Qualifier) where
  parameters_on : (ps : List ParameterTree) (xs : List (Option SlotNo)) → GoodParameters ps → GoodParameters (noted_parameters slots s ps xs)
  parameters_on [] xs h = tt
  parameters_on (p ∷ ps) [] h = h
  parameters_on (p ∷ ps) (x ∷ xs) h = (final_on p.marks (leading (both_at slots s x) p.type_use.array) h.0, parameters_on ps xs h.1)

  not_static : (b : Bool) (q : Qualifier) → (b ≡ true → ◌≡◌ {A = Option Qualifier} (Some q) None) → b ≡ false
  not_static false q f = refl
  not_static true q f = absurd (let e = f refl in cc)

  receiver_on : (o : Owner) (ms new : List Mark) (r : Option ReceiverTree) (q : Option Qualifier) → has_static new ≡ has_static ms → (has_static ms ≡ true → q ≡ None) → GoodReceiver o.name ms r → GoodReceiver o.name new (noted_receiver o.name r q)
  receiver_on o ms new None None e f h = tt
  receiver_on o ms new (Some r) None e f h = (e ∙ h.0, h.1)
  receiver_on o ms new None (Some q) e f h = (e ∙ not_static (has_static ms) q f, refl)
  receiver_on o ms new (Some r) (Some q) e f h = (e ∙ h.0, h.1)

  member_on : (o : Owner) (m : MemberTree) (fs : List Field) (methods : List Method) → MemberFits slots s m methods → GoodMember o m → GoodMember o (noted_member slots s o.name m fs methods)
  member_on o (FieldMember ms u d ds) fs methods f h = (marks_on marks_field ms (leading (names_of nullity_names (inferred_qual slots s (first_slot fs))) u.array) (λ n. refl) h.0, h.1, h.2)
  member_on o (MethodMember ms u n r ps body) fs [] f h = h
  member_on o (ConstructorMember ms n ps ss) fs [] f h = h
  member_on o (MethodMember ms u n r ps body) fs (m ∷ methods) f h =
      let names : List NameNo = both_at slots s m.result_slot in (
        (
          result_marks_on (GoodMethodMarks o.interface) names u ms (λ ns. method_marks o.interface ms ns h.0.0),
          receiver_on o ms (noted_result_marks names u ms) r (inferred_qual slots s m.receiver) (result_marks_on (λ x. has_static x ≡ has_static ms) names u ms (static_on ms)) f h.0.1,
          parameters_on ps m.param_slots h.0.2,
        ),
        h.1,
      )
  member_on o (ConstructorMember ms n ps ss) fs (m ∷ methods) f h = ((h.0.0, h.0.1, h.0.2, parameters_on ps m.param_slots h.0.3), h.1)

  members_on : (o : Owner) (ms : List MemberTree) (fs : List Field) (methods : List Method) → MembersFit slots s ms methods → GoodMembers o ms → GoodMembers o (noted_members slots s o.name ms fs methods)
  members_on o [] fs methods f h = tt
  members_on o (m ∷ ms) fs methods f h = (member_on o m fs methods f.0 h.0, members_on o ms (drop (fields_in m) fs) (drop (methods_in m) methods) f.1 h.1)

  type_on : (t : TypeDeclaration) (fs : List Field) (methods : List Method) → TypeFits slots s t methods → GoodType t → GoodType (noted_type slots s t fs methods)
  type_on (ClassType ms n parent interfaces members) fs methods f h = (h.0, members_on (record { interface = false; name = n }) members fs methods f h.1)
  type_on (InterfaceType ms n parents members) fs methods f h = (h.0, members_on (record { interface = true; name = n }) members fs methods f h.1)

  types_on : (ts : List TypeDeclaration) (fs : List Field) (methods : List Method) → TypesFit slots s ts methods → GoodTypes ts → GoodTypes (noted_types slots s ts fs methods)
  types_on [] fs methods f h = tt
  types_on (t ∷ ts) fs methods f h = (type_on t fs methods f.0 h.0, types_on ts (drop (type_fields t) fs) (drop (type_methods t) methods) f.1 h.1)

  pub file_good : (f : SourceTree) (fs : List Field) (methods : List Method) → TypesFit slots s f.types methods → GoodFile f → GoodFile (noted_file slots s f fs methods)
  file_good f fs methods h g = types_on f.types fs methods h g
