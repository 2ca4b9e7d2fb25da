-- Annotated files lex and parse, and mean the same.
use Rattle.std.proofs.Common.{◌≡◌, ℕ, Bool, true, false, not, List, [], ◌∷◌, length, Option, Some, None, refl, sym, ap, ◌∙◌, subst, arith}
use Rattle.std.specs.Prelude.{drop, map, slice_get, slice_index_or}
use Rattle.jn_base.specs.declared.number.SlotNo.{SlotNo}
use Rattle.jn_quals.specs.Qualifier.{Qualifier}
use Rattle.jn_quals.specs.Order.{no_qual}
use Rattle.jn_known.specs.Known.{known_names}
use Rattle.jn_points.specs.declared.program.SlotInfo.{SlotInfo}
use Rattle.jn_points.specs.declared.program.Program.{Program}
use Rattle.jn_sigs.specs.Signature.{start_signature}
use Rattle.jn_trees.specs.declared.token.Token.{Token}
use Rattle.jn_places.specs.Placed.{PlacedFile}
use Rattle.jn_places.specs.Forget.{forget_file}
use Rattle.jn_transfer.specs.Contributions.{is_inferred}
use Rattle.jn_heads.specs.Extract.{heads}
use Rattle.jn_base.specs.declared.infer.Infer.{Infer}
use Rattle.jn_trees.specs.Trees.{SourceTree}
use Rattle.jn_heads.specs.Inferred.{slots_by}
use Rattle.jn_program_law.specs.FileProgram.{inferring, program_of_files, rows_of_files}
use Rattle.jn_places_law.specs.Bare.{Alike, bare, bare_slot}
use Rattle.jn_annotate_law.specs.Again.{NoneInferred}
use Rattle.jn_annotate_law.proofs.Tabled.{noted_same, says_same}
use Rattle.jn_annotate_law.proofs.Unchanged.{named_all, unchanged}
use Rattle.jn_tables_law.specs.Inferable.{IsInferable}
use Rattle.jn_inference_law.specs.Solution.{IsLeastSignature}
use Rattle.std.proofs.lemmas.Bool.{and_parts, false≢true}
use Rattle.jn_annotate.specs.Chosen.{chosen_slots}
use Rattle.jn_annotate.specs.Annotated.{AreWorded, HasNone, has_shared_type, slot_inferred}
use Rattle.jn_annotate_law.specs.Meaning.{TextsLexed, AllPlaced}
use Rattle.jn_annotate_law.specs.Worded.{AreLeft, worded_from}
use Rattle.jn_annotate_law.specs.Kept.{Kept}
use Rattle.jn_annotate_law.specs.Says.{FilesSay}
use Rattle.jn_annotate_law.specs.Trees.{noted_files}
use Rattle.jn_annotate_law.proofs.Files.{all_of, are_noted}
use Rattle.jn_annotate_law.proofs.AllRows.{no_rows_more}
use Rattle.jn_annotate_law.proofs.Lined.{lined_rows, program_same}
use Rattle.jn_annotate_law.proofs.Fitting.{all_fit}
use Rattle.jn_annotate_law.proofs.Extracting.{heads_plain}
use Rattle.jn_heads_law.proofs.Tables.{tables_alike}
use Rattle.jn_annotate_law.proofs.Sources.{alike_programs}
use Rattle.jn_annotate_law.proofs.Written.{all_written}
use Rattle.jn_annotate_law.proofs.Roles.{Agree, starts_agree}
use Rattle.jn_annotate_law.proofs.Choosing.{chosen_spelled, left_of, narrows, none_again}
use Rattle.jn_annotate_law.proofs.PartlyWritten.{start_at, start_none, worded_long}
use Rattle.jn_annotate_law.proofs.SharedLeft.{files_left, same_slots}
use Rattle.jn_annotate_law.proofs.Meant.{means_partly}

-- a receiver that isn't inferred doesn't start with null
pub receivers_start : (P : Program) (roles : List ℕ) → Agree roles P.slots → (i : ℕ) → slice_get roles i ≡ Some 1 → is_inferred (slice_get P.slots i) ≡ false → (slice_index_or (start_signature P) i no_qual).null ≡ false
receivers_start P roles a i r e = go (slice_get P.slots i) refl e
  where
    go : (o : Option SlotInfo) → slice_get P.slots i ≡ o → is_inferred o ≡ false → (slice_index_or (start_signature P) i no_qual).null ≡ false
    go None k f = ap (λ (q : Qualifier). q.null) (start_none P 0 i P.slots k)
    go (Some info) k f = ap (λ (q : Qualifier). q.null) (start_at P i info k f) ∙ starts_agree roles P.slots i info a r k

-- ---- slots by a choice

as_many : (xs ys : List SlotInfo) → length xs ≡ length ys → map bare_slot xs ≡ map bare_slot ys
as_many [] [] e = refl
as_many [] (y ∷ ys) e = absurd (omega (arith, e))
as_many (x ∷ xs) [] e = absurd (omega (arith, e))
as_many (x ∷ xs) (y ∷ ys) e = ap (λ r. bare_slot x ∷ r) (as_many xs ys (omega (arith, e)))

abbrev with_slots : Program → List SlotInfo → Program
with_slots P slots = record P { slots = slots }

alike_by : (infer : Infer) (trees places : List PlacedFile) → Alike (program_of_files trees) (program_of_files places) → length (slots_by infer trees) ≡ length (slots_by infer places) → Alike (inferring infer trees) (inferring infer places)
alike_by infer trees places a e =
    ap (λ P. with_slots P (map bare_slot (slots_by infer trees))) a
    ∙ ap (with_slots (bare (program_of_files places))) (as_many (slots_by infer trees) (slots_by infer places) e)

-- a slot that is left to infer was inferred
fewer : (P R : Program) (s : List Qualifier) (said : List SlotInfo) → AreLeft said P.slots R.slots → (x : Option SlotNo) → slot_inferred R s x ≡ true → slot_inferred P s x ≡ true
fewer P R s said left None e = absurd (false≢true e)
fewer P R s said left (Some i) e = (and_parts (is_inferred (slice_get P.slots i.0)) (not (is_inferred (slice_get said i.0))) (sym (left i.0) ∙ e)).0

-- what is kept, and that files without rows stay without
pub record Whole (terse imports : Bool) (infer : Infer) (names : List (List ℕ)) (trees : List PlacedFile) (s : List Qualifier) (noted : List SourceTree) (new : List (List ℕ)) : Type 0 where
  pub kept : Kept terse imports infer names trees s noted new
  pub rows : rows_of_files trees ≡ [] → rows_of_files kept.places ≡ []

pub kept_all : (terse imports : Bool) (infer : Infer) (texts names new : List (List ℕ)) (tokens : List (List Token)) (trees : List PlacedFile) (s : List Qualifier) → let P = inferring infer trees in let bare = map forget_file trees in let said = chosen_slots terse P s in TextsLexed 0 known_names texts tokens names → AllPlaced tokens trees → IsInferable P → IsLeastSignature P s → FilesSay said s bare P.fields (drop 1 P.methods) → AreWorded (chosen_slots terse P s) imports P s texts tokens bare new → Whole terse imports infer names trees s (noted_files said s bare P.fields (drop 1 P.methods)) new
kept_all terse imports infer texts names new tokens trees s lexed placed can is say worded =
    let P : Program = inferring infer trees in
    let said : List SlotInfo = chosen_slots terse P s in
    let forgotten : List SourceTree = map forget_file trees in
    let r = all_of imports said s texts tokens trees names P.fields (drop 1 P.methods) lexed placed (all_fit tokens trees said s placed) in
    let narrow = narrows terse s P.slots in
    let written = all_written infer tokens r.plains trees r.plain said s narrow (chosen_spelled terse s P.slots) placed r.plain_placed (r.plain_are ∙ noted_same said s infer trees forgotten) ((says_same said s infer trees forgotten).1 say) in
    let table_is = tables_alike (heads trees) (heads r.plain) (heads_plain said s tokens r.plains trees r.plain P.fields (drop 1 P.methods) placed r.plain_placed r.plain_are) in
    let program_is = alike_programs said s tokens r.plains trees r.plain P.fields (drop 1 P.methods) placed r.plain_placed r.plain_are table_is in
    let count : length (slots_by infer trees) ≡ length (slots_by infer r.plain) = sym (ap length written ∙ worded_long said s 0 P.slots) in
    let R : Program = inferring infer r.places in
    let same : R ≡ inferring infer r.plain = program_same r.plain r.places r.lined infer in
    let alike : Alike P R = subst (λ (X : Program). Alike P X) (sym same) (alike_by infer trees r.plain program_is count) in
    let slots : R.slots ≡ worded_from said s 0 P.slots = ap (λ (X : Program). X.slots) same ∙ written in
    let left : AreLeft said P.slots R.slots = left_of said s P.slots R.slots slots in
    let none : NoneInferred (chosen_slots terse R s) = none_again terse s P.slots R.slots left in
    let again : TextsLexed 0 known_names new r.others names = subst (λ x. TextsLexed 0 known_names x r.others names) (sym worded.are) r.lexed in
    let fields = same_slots P.fields R.fields (ap (λ (X : Program). X.fields) alike) in
    let alone : HasNone (has_shared_type R s (map forget_file r.places)) = λ i. files_left P R s (fewer P R s said left) i said forgotten (map forget_file r.places) P.fields R.fields (drop 1 P.methods) r.import_more fields (worded.alone i) in
    let all : Kept terse imports infer names trees s (noted_files said s forgotten P.fields (drop 1 P.methods)) new = record {
      tokens = r.others;
      places = r.places;
      lexed = again;
      parsed = r.placed;
      trees_are = are_noted said s texts tokens trees names P.fields (drop 1 P.methods) imports r;
      meaning = means_partly P R s said can is alike slots;
      slots = slots;
      left = left;
      again = λ more. record {
        named = named_all (chosen_slots terse R s) R s none more (map forget_file r.places);
        alone = alone;
        are = sym (unchanged more (chosen_slots terse R s) R s new names r.others r.places known_names none again r.placed);
        small = worded.small;
      };
    } in
    record { kept = all; rows = λ e. lined_rows r.plain r.places r.lined (no_rows_more infer tokens r.plains trees r.plain said s narrow placed r.plain_placed r.plain_are e) }
