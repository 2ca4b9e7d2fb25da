-- The texts of annotated files, one after the other, lex and parse with the same names.
use Rattle.std.proofs.Common.{◌≡◌, ℕ, ◌+◌, Bool, true, false, List, [], ◌∷◌, refl, sym, ap, ◌∙◌, subst}
use Rattle.std.specs.Prelude.{drop, map}
use Rattle.jn_base.specs.declared.number.FileNo.{FileNo}
use Rattle.jn_known.specs.Known.{known_names}
use Rattle.jn_quals.specs.Qualifier.{Qualifier}
use Rattle.jn_points.specs.declared.program.Field.{Field}
use Rattle.jn_points.specs.declared.program.Method.{Method}
use Rattle.jn_points.specs.declared.program.SlotInfo.{SlotInfo}
use Rattle.jn_lexer.specs.Lexed.{Lexed}
use Rattle.jn_trees.specs.Pieces.{kinds, IsFile, Shallow}
use Rattle.jn_trees.specs.Spelling.{spell_file}
use Rattle.jn_trees.specs.Trees.{SourceTree}
use Rattle.jn_trees.specs.declared.token.Token.{Token}
use Rattle.jn_places.specs.Placed.{PlacedFile}
use Rattle.jn_places.specs.Places.{place_file}
use Rattle.jn_places.specs.Forget.{forget_file}
use Rattle.jn_places.proofs.PlaceForgotten.{file_same}
use Rattle.jn_splice_law.specs.Woven.{IsNamed}
use Rattle.jn_splice_law.proofs.Naming.{stays}
use Rattle.jn_annotate.specs.Annotated.{annotated_from}
use Rattle.jn_annotate.specs.declared.imports.Package.{Package}
use Rattle.jn_annotate.specs.Imports.{packages, with_lines}
use Rattle.jn_annotate.specs.Insertions.{file_fields, file_methods, in_file}
use Rattle.jn_annotate_law.specs.Fits.{FilesFit}
use Rattle.jn_annotate_law.specs.Meaning.{TextsLexed, AllPlaced}
use Rattle.jn_annotate_law.specs.Trees.{noted_file, noted_files, with_imports, AllImport, AreNoted}
use Rattle.jn_annotate_law.proofs.Notes.{HasKnown}
use Rattle.jn_annotate_law.proofs.Lined.{AllLined, lined, plain_kinds, plain_tokens}
use Rattle.jn_annotate_law.proofs.Parsed.{parsed, parsed_lines}

known_on : (file : FileNo) (text : List ℕ) (old new : List (List ℕ)) (ts : List Token) → HasKnown old → Lexed file text old ts new → HasKnown new
known_on file text old new ts h l name n named = subst (λ x. IsNamed x name n) (sym l.names_are) (stays old name n l.pieces (h name n named))

module _ (imports : Bool) (slots : List SlotInfo) (s : List Qualifier) where
  pub record Parsed (k : ℕ) (names : List (List ℕ)) (texts : List (List ℕ)) (tokens : List (List Token)) (trees : List SourceTree) (last : List (List ℕ)) (fs : List Field) (ms : List Method) : Type 0 where
    pub others : List (List Token)
    pub places : List PlacedFile
    pub lexed : TextsLexed k names (annotated_from imports slots s texts tokens trees fs ms) others last
    pub placed : AllPlaced others places
    -- the same without the imports, by tokens and trees that aren't those of a text
    pub plains : List (List Token)
    pub plain : List PlacedFile
    pub plain_placed : AllPlaced plains plain
    pub plain_are : map forget_file plain ≡ noted_files slots s trees fs ms
    pub lined : AllLined plain places
    pub import_more : AllImport (noted_files slots s trees fs ms) (map forget_file places)
    pub import_none : imports ≡ false → map forget_file places ≡ noted_files slots s trees fs ms

  pub files_parsed : (k : ℕ) (names : List (List ℕ)) (texts : List (List ℕ)) (tokens : List (List Token)) (trees : List PlacedFile) (last : List (List ℕ)) (fs : List Field) (ms : List Method) → HasKnown names → TextsLexed k names texts tokens last → AllPlaced tokens trees → FilesFit slots s (map forget_file trees) ms → Parsed k names texts tokens (map forget_file trees) last fs ms
  unfolding with_lines
  files_parsed k names [] [] [] last fs ms known l p f = record { others = []; places = []; lexed = l; placed = tt; plains = []; plain = []; plain_placed = tt; plain_are = refl; lined = tt; import_more = tt; import_none = λ e. refl }
  files_parsed k names [] [] (tree ∷ trees) last fs ms known l p f = absurd p
  files_parsed k names [] (ts ∷ tss) trees last fs ms known l p f = absurd l
  files_parsed k names (text ∷ texts) [] trees last fs ms known l p f = absurd l
  files_parsed k names (text ∷ texts) (ts ∷ tss) [] last fs ms known l p f = absurd p
  files_parsed k names (text ∷ texts) (ts ∷ tss) (tree ∷ trees) last fs ms known l p f =
      let file : FileNo = record { 0 = k } in
      let bare : SourceTree = forget_file tree in
      let ps : List Package = packages imports bare.imports (in_file slots s text ts bare fs ms) in
      let g : SourceTree = noted_file slots s bare fs ms in
      let new : SourceTree = with_imports ps g in
      let alone = parsed file text names l.0 ts bare slots s fs ms known l.1 p.0.0 f.0 in
      let one = parsed_lines file text names l.0 ts bare slots s fs ms ps known l.1 p.0.0 f.0 in
      let rest = files_parsed (k + 1) l.0 texts tss trees last (drop (file_fields bare.types) fs) (drop (file_methods bare.types) ms) (known_on file text names l.0 ts known l.1) l.2 p.1 f.1 in
      let same : forget_file (place_file one.0 new) ≡ new = file_same one.0 new in
      let own : List Token = plain_tokens one.0 ps g one.2.1 in
      let own_kinds : kinds own ≡ spell_file g = plain_kinds one.0 ps g one.2.1 in
      let own_file : IsFile own g = (one.2.0, own_kinds, subst Shallow (alone.2.1 ∙ sym own_kinds) alone.2.2) in
      let own_same : forget_file (place_file own g) ≡ g = file_same own g in
      record {
        others = one.0 ∷ rest.others;
        places = place_file one.0 new ∷ rest.places;
        lexed = (l.0, one.1, rest.lexed);
        placed = ((subst (IsFile one.0) (sym same) one.2, ap (place_file one.0) (sym same)), rest.placed);
        plains = own ∷ rest.plains;
        plain = place_file own g ∷ rest.plain;
        plain_placed = ((subst (IsFile own) (sym own_same) own_file, ap (place_file own) (sym own_same)), rest.plain_placed);
        plain_are = ap (λ x. x ∷ map forget_file rest.plain) own_same ∙ ap (λ xs. g ∷ xs) rest.plain_are;
        lined = (lined one.0 ps g one.2.1, rest.lined);
        import_more = ((ps, same), rest.import_more);
        import_none = λ e. ap (λ x. x ∷ map forget_file rest.places) (same ∙ ap (λ b. with_imports (packages b bare.imports (in_file slots s text ts bare fs ms)) g) e) ∙ ap (λ xs. g ∷ xs) (rest.import_none e);
      }

-- from the known names on
pub all_of : (imports : Bool) (slots : List SlotInfo) (s : List Qualifier) (texts : List (List ℕ)) (tokens : List (List Token)) (trees : List PlacedFile) (last : List (List ℕ)) (fs : List Field) (ms : List Method) → TextsLexed 0 known_names texts tokens last → AllPlaced tokens trees → FilesFit slots s (map forget_file trees) ms → Parsed imports slots s 0 known_names texts tokens (map forget_file trees) last fs ms
all_of imports slots s texts tokens trees last fs ms l p f = files_parsed imports slots s 0 known_names texts tokens trees last fs ms (λ name n h. h) l p f

module _ (slots : List SlotInfo) (s : List Qualifier) (texts : List (List ℕ)) (tokens : List (List Token)) (trees : List PlacedFile) (last : List (List ℕ)) (fs : List Field) (ms : List Method) where
  -- where imports are asked for, there are more of them, and none are else
  pub are_noted : (imports : Bool) (r : Parsed imports slots s 0 known_names texts tokens (map forget_file trees) last fs ms) → AreNoted imports (noted_files slots s (map forget_file trees) fs ms) (map forget_file r.places)
  are_noted true r = r.import_more
  are_noted false r = r.import_none refl

pub all_imported : (imports : Bool) (slots : List SlotInfo) (s : List Qualifier) (texts : List (List ℕ)) (tokens : List (List Token)) (trees : List PlacedFile) (last : List (List ℕ)) (fs : List Field) (ms : List Method) → TextsLexed 0 known_names texts tokens last → AllPlaced tokens trees → FilesFit slots s (map forget_file trees) ms → (others : List (List Token)) × (places : List PlacedFile) × TextsLexed 0 known_names (annotated_from imports slots s texts tokens (map forget_file trees) fs ms) others last × AllPlaced others places × AreNoted imports (noted_files slots s (map forget_file trees) fs ms) (map forget_file places)
all_imported imports slots s texts tokens trees last fs ms l p f =
    let r = all_of imports slots s texts tokens trees last fs ms l p f in
    (r.others, r.places, r.lexed, r.placed, are_noted slots s texts tokens trees last fs ms imports r)

pub all_parsed : (slots : List SlotInfo) (s : List Qualifier) (texts : List (List ℕ)) (tokens : List (List Token)) (trees : List PlacedFile) (last : List (List ℕ)) (fs : List Field) (ms : List Method) → TextsLexed 0 known_names texts tokens last → AllPlaced tokens trees → FilesFit slots s (map forget_file trees) ms → (others : List (List Token)) × (places : List PlacedFile) × TextsLexed 0 known_names (annotated_from false slots s texts tokens (map forget_file trees) fs ms) others last × AllPlaced others places × (map forget_file places ≡ noted_files slots s (map forget_file trees) fs ms)
all_parsed = all_imported false
