-- The slots of words: as many as words are put into a file.
use Rattle.std.proofs.Common.{◌≡◌, ℕ, ◌+◌, Bool, true, false, cond, List, [], ◌∷◌, ◌++◌, length, Option, Some, None, refl, sym, ap, ◌∙◌, append_assoc}
use Rattle.std.specs.Prelude.{drop, slice_get, slice_index_or}
use Rattle.std.proofs.lemmas.List.{length-append}
use Rattle.jn_annotate.specs.Annotated.{members_of}
use Rattle.jn_annotate.specs.Insertions as puts
use Rattle.jn_annotate.specs.Words.{both_texts, nullity_text}
use Rattle.jn_base.specs.declared.number.SlotNo.{SlotNo}
use Rattle.jn_points.specs.declared.program.Field.{Field}
use Rattle.jn_points.specs.declared.program.Method.{Method}
use Rattle.jn_points.specs.declared.program.SlotInfo.{SlotInfo}
use Rattle.jn_quals.specs.Order.{no_qual}
use Rattle.jn_quals.specs.Qualifier.{Qualifier}
use Rattle.jn_places.specs.Places.{behind, front, spell_parameter_through, spell_receiver}
use Rattle.jn_splice_law.specs.Inserted.{Insertion}
use Rattle.jn_splice_law.specs.Woven.{piece}
use Rattle.jn_transfer.specs.Contributions.{is_inferred}
use Rattle.jn_trees.specs.declared.token.Token.{Token}
use Rattle.jn_trees.specs.declared.token.TokenKind.TheVariants.{Id, LeftParen, LeftBrace, Class, Interface, Implements, Extends}
use Rattle.jn_trees.specs.Spelling.{spell_marks, spell_all_marks, spell_result, spell_member, spell_parent, spell_names, spell_type, spell_package_line, spell_imports}
use Rattle.jn_trees.specs.Trees.{TypeUseTree, ParameterTree, ReceiverTree, MemberTree, FieldMember, MethodMember, ConstructorMember, TypeDeclaration, ClassType, InterfaceType, SourceTree}
use Rattle.jn_lsp_actions.specs.Slots.{inferred_slot, member_slots, members_slots, parameter_slots, result_slots, types_slots}

-- one part after the other
pub two_parts : (old one two a b : List ℕ) → one ≡ old ++ a → two ≡ one ++ b → two ≡ old ++ (a ++ b)
two_parts old one two a b h k = k ∙ ap (λ x. x ++ b) h ∙ append_assoc old a b

both_long : (a c : List Insertion) (b d : List ℕ) → length a ≡ length b → length c ≡ length d → length (a ++ c) ≡ length (b ++ d)
both_long a c b d h k = length-append a c ∙ (λ i. h i + k i) ∙ sym (length-append b d)

module _ (slots : List SlotInfo) (s : List Qualifier) where
  -- at a type
  chosen_long : (text : Qualifier → List ℕ) (ts : List Token) (u : TypeUseTree) (q : Qualifier) (k : ℕ) (b : Bool) → length (puts.at_type text ts u (cond b (Some q) None)) ≡ length (cond b (k ∷ []) [])
  chosen_long text ts u q k true = refl
  chosen_long text ts u q k false = refl

  where_long : (text : Qualifier → List ℕ) (ts : List Token) (u : TypeUseTree) (k : ℕ) (o : Option SlotInfo) → length (puts.at_type text ts u (puts.qual_where slots s o k)) ≡ length (cond (is_inferred o) (k ∷ []) [])
  where_long text ts u k None = refl
  where_long text ts u k (Some info) = chosen_long text ts u (slice_index_or s k no_qual) k info.inferred

  type_long : (text : Qualifier → List ℕ) (ts : List Token) (u : TypeUseTree) (x : Option SlotNo) → length (puts.at_type text ts u (puts.inferred_qual slots s x)) ≡ length (inferred_slot slots x)
  type_long text ts u None = refl
  type_long text ts u (Some i) = where_long text ts u i.0 (slice_get slots i.0)

  -- at a receiver
  chosen_receiver : (class : List ℕ) (paren : List Token) (r : Option ReceiverTree) (ps : List ParameterTree) (q : Qualifier) (k : ℕ) (b : Bool) → length (puts.at_receiver class paren r ps (cond b (Some q) None)) ≡ length (cond b (k ∷ []) [])
  chosen_receiver class paren None ps q k true = refl
  chosen_receiver class paren (Some r) ps q k true = refl
  chosen_receiver class paren r ps q k false = refl

  where_receiver : (class : List ℕ) (paren : List Token) (r : Option ReceiverTree) (ps : List ParameterTree) (k : ℕ) (o : Option SlotInfo) → length (puts.at_receiver class paren r ps (puts.qual_where slots s o k)) ≡ length (cond (is_inferred o) (k ∷ []) [])
  where_receiver class paren r ps k None = refl
  where_receiver class paren r ps k (Some info) = chosen_receiver class paren r ps (slice_index_or s k no_qual) k info.inferred

  receiver_long : (class : List ℕ) (paren : List Token) (r : Option ReceiverTree) (ps : List ParameterTree) (x : Option SlotNo) → length (puts.at_receiver class paren r ps (puts.inferred_qual slots s x)) ≡ length (inferred_slot slots x)
  receiver_long class paren r ps None = refl
  receiver_long class paren r ps (Some i) = where_receiver class paren r ps i.0 (slice_get slots i.0)

  -- at members
  parameters_long : (ts : List Token) (ps : List ParameterTree) (xs : List (Option SlotNo)) → length (puts.at_parameters slots s ts ps xs) ≡ length (parameter_slots slots ps xs)
  parameters_long ts [] xs = refl
  parameters_long ts (p ∷ ps) [] = refl
  parameters_long ts (p ∷ ps) (x ∷ xs) =
      both_long (puts.at_type both_texts (behind ts (spell_marks p.marks)) p.type_use (puts.inferred_qual slots s x)) (puts.at_parameters slots s (behind ts (spell_parameter_through p)) ps xs) (inferred_slot slots x) (parameter_slots slots ps xs)
      (type_long both_texts (behind ts (spell_marks p.marks)) p.type_use x) (parameters_long (behind ts (spell_parameter_through p)) ps xs)

  result_long : (ts : List Token) (u : Option TypeUseTree) (x : Option SlotNo) → length (puts.at_result slots s ts u x) ≡ length (result_slots slots u x)
  result_long ts None x = refl
  result_long ts (Some u) x = type_long both_texts ts u x

  head_long : (class : List ℕ) (paren : List Token) (r : Option ReceiverTree) (ps : List ParameterTree) (m : Method) → length (puts.at_head slots s class paren r ps m) ≡ length (inferred_slot slots m.receiver ++ parameter_slots slots ps m.param_slots)
  head_long class paren r ps m =
      let ts = behind (drop 1 paren) (spell_receiver r) in
      both_long (puts.at_receiver class paren r ps (puts.inferred_qual slots s m.receiver)) (puts.at_parameters slots s ts ps m.param_slots) (inferred_slot slots m.receiver) (parameter_slots slots ps m.param_slots)
      (receiver_long class paren r ps m.receiver) (parameters_long ts ps m.param_slots)

  member_long : (class : List ℕ) (ts : List Token) (m : MemberTree) (fs : List Field) (methods : List Method) → length (puts.at_member slots s class ts m fs methods) ≡ length (member_slots slots m fs methods)
  member_long class ts (FieldMember ms u d ds) fs methods = type_long nullity_text (behind ts (spell_all_marks ms)) u (puts.first_slot fs)
  member_long class ts (MethodMember ms u n r ps body) fs [] = refl
  member_long class ts (ConstructorMember ms n ps ss) fs [] = refl
  member_long class ts (MethodMember ms u n r ps body) fs (m ∷ methods) =
      let result = behind ts (spell_all_marks ms) in
      let paren = behind result (spell_result u ++ Id n ∷ []) in
      both_long (puts.at_result slots s result u m.result_slot) (puts.at_head slots s class paren r ps m) (result_slots slots u m.result_slot) (inferred_slot slots m.receiver ++ parameter_slots slots ps m.param_slots)
      (result_long result u m.result_slot) (head_long class paren r ps m)
  member_long class ts (ConstructorMember ms n ps ss) fs (m ∷ methods) = parameters_long (behind ts (spell_all_marks ms ++ Id n ∷ LeftParen ∷ [])) ps m.param_slots

  members_long : (class : List ℕ) (ts : List Token) (members : List MemberTree) (fs : List Field) (methods : List Method) → length (puts.at_members slots s class ts members fs methods) ≡ length (members_slots slots members fs methods)
  members_long class ts [] fs methods = refl
  members_long class ts (m ∷ ms) fs methods =
      let later = drop (puts.fields_in m) fs in
      let others = drop (puts.methods_in m) methods in
      both_long (puts.at_member slots s class ts m fs methods) (puts.at_members slots s class (behind ts (spell_member m)) ms later others) (member_slots slots m fs methods) (members_slots slots ms later others)
      (member_long class ts m fs methods) (members_long class (behind ts (spell_member m)) ms later others)

  -- in types
  declared_long : (text : List ℕ) (ts : List Token) (t : TypeDeclaration) (fs : List Field) (methods : List Method) → length (puts.in_type slots s text ts t fs methods) ≡ length (members_slots slots (members_of t) fs methods)
  declared_long text ts (ClassType ms n parent interfaces members) fs methods =
      let name = behind ts (spell_all_marks ms ++ Class ∷ []) in
      members_long (piece text (front name)) (behind (drop 1 name) (spell_parent parent ++ (spell_names Implements interfaces ++ LeftBrace ∷ []))) members fs methods
  declared_long text ts (InterfaceType ms n parents members) fs methods =
      let name = behind ts (spell_all_marks ms ++ Interface ∷ []) in
      members_long (piece text (front name)) (behind (drop 1 name) (spell_names Extends parents ++ LeftBrace ∷ [])) members fs methods

  types_long : (text : List ℕ) (ts : List Token) (types : List TypeDeclaration) (fs : List Field) (methods : List Method) → length (puts.in_types slots s text ts types fs methods) ≡ length (types_slots slots types fs methods)
  types_long text ts [] fs methods = refl
  types_long text ts (t ∷ rest) fs methods =
      let later = drop (puts.type_fields t) fs in
      let others = drop (puts.type_methods t) methods in
      both_long (puts.in_type slots s text ts t fs methods) (puts.in_types slots s text (behind ts (spell_type t)) rest later others) (members_slots slots (members_of t) fs methods) (types_slots slots rest later others)
      (declared_long text ts t fs methods) (types_long text (behind ts (spell_type t)) rest later others)

  -- as many slots as words
  pub file_long : (text : List ℕ) (ts : List Token) (f : SourceTree) (fs : List Field) (methods : List Method) → length (puts.in_file slots s text ts f fs methods) ≡ length (types_slots slots f.types fs methods)
  file_long text ts f fs methods = types_long text (behind ts (spell_package_line f.package_line ++ spell_imports f.imports)) f.types fs methods
