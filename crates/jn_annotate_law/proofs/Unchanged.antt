-- Where no slot is inferred, no text gets a word.
use Rattle.std.proofs.Common.{◌≡◌, ℕ, ◌+◌, Bool, true, false, not, cond, ◌&&◌, ◌||◌, List, [], ◌∷◌, ◌++◌, length, Option, Some, None, refl, sym, ap, ◌∙◌}
use Rattle.std.specs.Prelude.{drop, map, slice_get, slice_index_or, take}
use Rattle.jn_base.specs.declared.number.SlotNo.{SlotNo}
use Rattle.jn_quals.specs.Qualifier.{Qualifier}
use Rattle.jn_quals.specs.Order.{no_qual}
use Rattle.jn_points.specs.Members.{some_of}
use Rattle.jn_points.specs.declared.program.Field.{Field}
use Rattle.jn_points.specs.declared.program.Method.{Method}
use Rattle.jn_points.specs.declared.program.SlotInfo.{SlotInfo}
use Rattle.jn_points.specs.declared.program.Program.{Program}
use Rattle.jn_sigs.specs.Signature.{is_slot, slot_qual}
use Rattle.jn_transfer.specs.Contributions.{is_inferred}
use Rattle.jn_trees.specs.declared.token.Token.{Token}
use Rattle.jn_trees.specs.declared.token.TokenKind.TheVariants.{Id, LeftParen, LeftBrace, Class, Interface, Implements, Extends}
use Rattle.jn_trees.specs.Trees.{TypeUseTree, ParameterTree, ReceiverTree, MemberTree, FieldMember, MethodMember, ConstructorMember, TypeDeclaration, ClassType, InterfaceType, SourceTree}
use Rattle.jn_trees.specs.Spelling.{spell_all_marks, spell_imports, spell_marks, spell_member, spell_names, spell_package_line, spell_parent, spell_result, spell_type}
use Rattle.jn_places.specs.Placed.{PlacedFile}
use Rattle.jn_places.specs.Places.{behind, front, spell_parameter_through, spell_receiver}
use Rattle.jn_places.specs.Forget.{forget_file}
use Rattle.jn_splice_law.specs.Inserted.{inserted}
use Rattle.jn_splice_law.specs.Woven.{piece}
use Rattle.jn_annotate.specs.Words.{both_texts, is_unspelled, nullity_text}
use Rattle.jn_annotate.specs.Imports.{with_lines}
use Rattle.jn_annotate.specs.Taken.{is_taken, taken_words}
use Rattle.jn_annotate.specs.Insertions.{at_head, at_member, at_members, at_parameters, at_receiver, at_result, at_type, fields_in, file_fields, file_methods, first_slot, in_file, in_type, in_types, inferred_qual, methods_in, qual_where, type_fields, type_methods}
use Rattle.jn_annotate.specs.Annotated.{Annotated, HasNone, annotated, annotated_from, differs, has_no_spelling, has_taken_name, is_too_large, members_of, same_qual, shared_from, shared_in, shared_in_members, shared_in_types, slot_inferred}
use Rattle.jn_annotate_law.specs.Meaning.{AllPlaced, TextsLexed}
use Rattle.jn_annotate_law.specs.Again.{NoneInferred}

no_words : {A : Type 0} (xs ys : List A) → xs ≡ [] → ys ≡ [] → xs ++ ys ≡ []
no_words xs ys e f = ap (λ z. z ++ ys) e ∙ f

module _ (slots : List SlotInfo) (s : List Qualifier) (none : NoneInferred slots) where
  no_qual_at : (x : Option SlotNo) → inferred_qual slots s x ≡ None
  no_qual_at None = refl
  no_qual_at (Some i) = go (slice_get slots i.0) (none i.0)
    where
      go : (o : Option SlotInfo) → is_inferred o ≡ false → qual_where slots s o i.0 ≡ None
      go None e = refl
      go (Some info) e = ap (λ b. cond b (Some (slice_index_or s i.0 no_qual)) None) e

  type_none : (text : Qualifier → List ℕ) (ts : List Token) (u : TypeUseTree) (x : Option SlotNo) → at_type text ts u (inferred_qual slots s x) ≡ []
  type_none text ts u x = ap (at_type text ts u) (no_qual_at x)

  parameters_none : (ts : List Token) (ps : List ParameterTree) (xs : List (Option SlotNo)) → at_parameters slots s ts ps xs ≡ []
  parameters_none ts [] xs = refl
  parameters_none ts (p ∷ ps) [] = refl
  parameters_none ts (p ∷ ps) (x ∷ xs) = no_words (at_type both_texts (behind ts (spell_marks p.marks)) p.type_use (inferred_qual slots s x)) (at_parameters slots s (behind ts (spell_parameter_through p)) ps xs) (type_none both_texts (behind ts (spell_marks p.marks)) p.type_use x) (parameters_none (behind ts (spell_parameter_through p)) ps xs)

  result_none : (ts : List Token) (u : Option TypeUseTree) (x : Option SlotNo) → at_result slots s ts u x ≡ []
  result_none ts None x = refl
  result_none ts (Some u) x = type_none both_texts ts u x

  head_none : (class : List ℕ) (paren : List Token) (r : Option ReceiverTree) (ps : List ParameterTree) (m : Method) → at_head slots s class paren r ps m ≡ []
  head_none class paren r ps m =
      no_words (at_receiver class paren r ps (inferred_qual slots s m.receiver)) (at_parameters slots s (behind (drop 1 paren) (spell_receiver r)) ps m.param_slots) (ap (at_receiver class paren r ps) (no_qual_at m.receiver) ∙ receiver r)
      (parameters_none (behind (drop 1 paren) (spell_receiver r)) ps m.param_slots)
    where
      receiver : (r : Option ReceiverTree) → at_receiver class paren r ps None ≡ []
      receiver None = refl
      receiver (Some r) = refl

  member_none : (class : List ℕ) (ts : List Token) (m : MemberTree) (fs : List Field) (methods : List Method) → at_member slots s class ts m fs methods ≡ []
  member_none class ts (FieldMember ms u d ds) fs methods = type_none nullity_text (behind ts (spell_all_marks ms)) u (first_slot fs)
  member_none class ts (MethodMember ms u n r ps body) fs [] = refl
  member_none class ts (MethodMember ms u n r ps body) fs (m ∷ methods) =
      let result = behind ts (spell_all_marks ms) in
      no_words (at_result slots s result u m.result_slot) (at_head slots s class (behind result (spell_result u ++ Id n ∷ [])) r ps m) (result_none result u m.result_slot) (head_none class (behind result (spell_result u ++ Id n ∷ [])) r ps m)
  member_none class ts (ConstructorMember ms n ps ss) fs [] = refl
  member_none class ts (ConstructorMember ms n ps ss) fs (m ∷ methods) = parameters_none (behind ts (spell_all_marks ms ++ Id n ∷ LeftParen ∷ [])) ps m.param_slots

  members_none : (class : List ℕ) (ts : List Token) (ms : List MemberTree) (fs : List Field) (methods : List Method) → at_members slots s class ts ms fs methods ≡ []
  members_none class ts [] fs methods = refl
  members_none class ts (m ∷ ms) fs methods =
      let later = behind ts (spell_member m) in
      no_words (at_member slots s class ts m fs methods) (at_members slots s class later ms (drop (fields_in m) fs) (drop (methods_in m) methods)) (member_none class ts m fs methods) (members_none class later ms (drop (fields_in m) fs) (drop (methods_in m) methods))

  module _ (text : List ℕ) where
    type_is_none : (ts : List Token) (t : TypeDeclaration) (fs : List Field) (methods : List Method) → in_type slots s text ts t fs methods ≡ []
    type_is_none ts (ClassType ms n parent interfaces members) fs methods =
        let name = behind ts (spell_all_marks ms ++ Class ∷ []) in
        members_none (piece text (front name)) (behind (drop 1 name) (spell_parent parent ++ (spell_names Implements interfaces ++ LeftBrace ∷ []))) members fs methods
    type_is_none ts (InterfaceType ms n parents members) fs methods =
        let name = behind ts (spell_all_marks ms ++ Interface ∷ []) in
        members_none (piece text (front name)) (behind (drop 1 name) (spell_names Extends parents ++ LeftBrace ∷ [])) members fs methods

    types_none : (ts : List Token) (types : List TypeDeclaration) (fs : List Field) (methods : List Method) → in_types slots s text ts types fs methods ≡ []
    types_none ts [] fs methods = refl
    types_none ts (t ∷ types) fs methods =
        let later = behind ts (spell_type t) in
        no_words (in_type slots s text ts t fs methods) (in_types slots s text later types (drop (type_fields t) fs) (drop (type_methods t) methods)) (type_is_none ts t fs methods) (types_none later types (drop (type_fields t) fs) (drop (type_methods t) methods))

    file_none : (ts : List Token) (f : SourceTree) (fs : List Field) (methods : List Method) → in_file slots s text ts f fs methods ≡ []
    file_none ts f fs methods = types_none (behind ts (spell_package_line f.package_line ++ spell_imports f.imports)) f.types fs methods

  no_lines : (imports : Bool) (text : List ℕ) (ts : List Token) (f : SourceTree) → with_lines imports text ts f [] ≡ []
  unfolding with_lines
  no_lines true text ts f = refl
  no_lines false text ts f = refl

  files_none : (imports : Bool) (k : ℕ) (known : List (List ℕ)) (texts : List (List ℕ)) (tokens : List (List Token)) (trees : List PlacedFile) (names : List (List ℕ)) (fs : List Field) (methods : List Method) → TextsLexed k known texts tokens names → AllPlaced tokens trees → annotated_from imports slots s texts tokens (map forget_file trees) fs methods ≡ texts
  files_none imports k known [] tokens trees names fs methods l p = refl
  files_none imports k known (text ∷ texts) [] trees names fs methods l p = absurd l
  files_none imports k known (text ∷ texts) (ts ∷ tokens) [] names fs methods l p = absurd p
  files_none imports k known (text ∷ texts) (ts ∷ tokens) (tree ∷ trees) names fs methods l p =
      let f : SourceTree = forget_file tree in
      ap (λ x. inserted text (with_lines imports text ts f x) ∷ annotated_from imports slots s texts tokens (map forget_file trees) (drop (file_fields f.types) fs) (drop (file_methods f.types) methods)) (file_none text ts f fs methods)
      ∙ ap (λ x. inserted text x ∷ annotated_from imports slots s texts tokens (map forget_file trees) (drop (file_fields f.types) fs) (drop (file_methods f.types) methods)) (no_lines imports text ts f)
      ∙ ap (λ r. text ∷ r) (files_none imports (k + 1) l.0 texts tokens trees names (drop (file_fields f.types) fs) (drop (file_methods f.types) methods) l.2 p.1)

pub unchanged : (imports : Bool) (said : List SlotInfo) (P : Program) (s : List Qualifier) (texts names : List (List ℕ)) (tokens : List (List Token)) (trees : List PlacedFile) (known : List (List ℕ)) → NoneInferred said → TextsLexed 0 known texts tokens names → AllPlaced tokens trees → annotated imports said P s texts tokens (map forget_file trees) ≡ texts
unchanged imports said P s texts names tokens trees known none l p = files_none said s none imports 0 known texts tokens trees names P.fields (drop 1 P.methods) l p

-- ---- and nothing is refused but for its size

-- where no slot counts as inferred, none gets a word that is taken
pub named_all : (said : List SlotInfo) (P : Program) (s : List Qualifier) → NoneInferred said → (imports : Bool) (trees : List SourceTree) → HasNone (has_taken_name imports said P s trees)
named_all said P s none imports trees i = ap (λ b. b && imports && is_taken (taken_words trees) P (slice_index_or s i no_qual) i) (none i)

module _ (P : Program) (s : List Qualifier) (none : NoneInferred P.slots) where
  not_inferred : (x : Option SlotNo) → slot_inferred P s x ≡ false
  not_inferred None = refl
  not_inferred (Some i) = none i.0

  spelled_all : HasNone (has_no_spelling P s)
  spelled_all i = ap (λ b. b && is_unspelled (slice_index_or s i no_qual)) (none i)

  differs_none : (q : Qualifier) (i : ℕ) (f : Field) → differs P s q i f ≡ false
  differs_none q i f = ap (λ b. is_slot i f.slot && b && not (same_qual (slot_qual s f.slot) q)) (not_inferred f.slot) ∙ either (is_slot i f.slot)
    where
      either : (b : Bool) → (b && false && not (same_qual (slot_qual s f.slot) q)) ≡ false
      either true = refl
      either false = refl

  some_none : (q : Qualifier) (i : ℕ) (fs : List Field) → some_of (differs P s q i) fs ≡ false
  some_none q i [] = refl
  some_none q i (f ∷ fs) = ap (λ b. b || some_of (differs P s q i) fs) (differs_none q i f) ∙ some_none q i fs

  member_shares_none : (m : MemberTree) (fs : List Field) (i : ℕ) → shared_in P s m fs i ≡ false
  member_shares_none (FieldMember ms u d ds) fs i = some_none (slot_qual s (first_slot fs)) i (take (1 + length ds) fs)
  member_shares_none (MethodMember ms u n r ps body) fs i = refl
  member_shares_none (ConstructorMember ms n ps ss) fs i = refl

  members_share_none : (ms : List MemberTree) (fs : List Field) (i : ℕ) → shared_in_members P s ms fs i ≡ false
  members_share_none [] fs i = refl
  members_share_none (m ∷ ms) fs i = ap (λ b. cond b true (shared_in_members P s ms (drop (fields_in m) fs) i)) (member_shares_none m fs i) ∙ members_share_none ms (drop (fields_in m) fs) i

  types_share_none : (ts : List TypeDeclaration) (fs : List Field) (i : ℕ) → shared_in_types P s ts fs i ≡ false
  types_share_none [] fs i = refl
  types_share_none (t ∷ ts) fs i = ap (λ b. cond b true (shared_in_types P s ts (drop (type_fields t) fs) i)) (members_share_none (members_of t) fs i) ∙ types_share_none ts (drop (type_fields t) fs) i

  files_share_none : (trees : List SourceTree) (fs : List Field) (i : ℕ) → shared_from P s trees fs i ≡ false
  files_share_none [] fs i = refl
  files_share_none (f ∷ trees) fs i = ap (λ b. cond b true (shared_from P s trees (drop (file_fields f.types) fs) i)) (types_share_none f.types fs i) ∙ files_share_none trees (drop (file_fields f.types) fs) i

  pub annotated_again : (imports : Bool) (texts names : List (List ℕ)) (tokens : List (List Token)) (trees : List PlacedFile) (known : List (List ℕ)) → TextsLexed 0 known texts tokens names → AllPlaced tokens trees → HasNone (is_too_large texts) → Annotated imports P s texts tokens (map forget_file trees) texts
  annotated_again imports texts names tokens trees known l p small = record {
    spelled = spelled_all;
    named = named_all P.slots P s none imports (map forget_file trees);
    alone = λ i. files_share_none (map forget_file trees) P.fields i;
    are = sym (unchanged imports P.slots P s texts names tokens trees known none l p);
    small = small;
  }
