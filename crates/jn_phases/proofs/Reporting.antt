-- What is found of files that were read.
use Rattle.std.proofs.Common.{◌≡◌, ◌↔◌, ℕ, ◌<◌, List, [], ◌∷◌, length, Option, Some, None, Result, Ok, Err, inl, inr, refl, sym, ap, ◌∙◌, subst}
use Rattle.std.specs.Prelude.{Contains, IfOk, IsSome}
use Rattle.jn_base.specs.declared.infer.Infer.{Infer}
use Rattle.jn_base.specs.declared.refusal.OutOfMemory.{OutOfMemory}
use Rattle.jn_base.specs.declared.place.Row.{Row}
use Rattle.jn_base.specs.declared.code.Code.TheVariants.{B1}
use Rattle.jn_trees.specs.declared.token.Token.{Token}
use Rattle.jn_places.specs.Placed.{PlacedFile}
use Rattle.jn_points.specs.declared.program.Program.{Program}
use Rattle.jn_points.specs.BaseRows.{IsBaseRow, NoBaseRows}
use Rattle.jn_known.specs.Known.{known_names}
use Rattle.jn_diag.specs.Order.{IsOrderOf}
use Rattle.jn_front.specs.declared.source.SourceFile.{SourceFile}
use Rattle.jn_front.specs.declared.source.SourceRead.{SourceRead}
use Rattle.jn_front.specs.Files.{files_of_reads, AreReads, most_files}
use Rattle.jn_front.specs.Limits.{row_at, limit_rows}
use Rattle.jn_front.specs.Phases.{AreParsed, ArePlaced, FaultRows, FrontRows, SyntaxRows, LexedFrom, TextRows}
use Rattle.jn_command.specs.Stands.{StandIn}
use Rattle.jn_command.proofs.Standing.{Limited, all_stand, limited_stand, many_limit, one_ordered, within_limits}
use Rattle.jn_phases.specs.declared.typing.TypedFiles.{TypedFiles}
use Rattle.jn_phases.specs.declared.typing.Typing.{Typing}
use Rattle.jn_phases.specs.Phases.{AreDeclared, AreTreesOrNone, IsPhase, IsTypedOr, NoneParsed, PhaseRows, ProgramOf, lowering_rows}
use Rattle.jn_phases.proofs.Naming.{trees_or_none}
use Rattle.jn_phases.specs.Typing.{IsTyping}

-- ---- the texts' phases

abbrev pub Made : Type 0
Made = Result TypedFiles OutOfMemory

-- it refuses by these rows, in order
abbrev pub RefusesBy : List Row → Made → Type 0
RefusesBy rows made = IfOk made (λ typed. (sorted : List Row) × IsOrderOf rows sorted × (typed.rows ≡ sorted))

abbrev pub HasNone : Made → Type 0
HasNone made = IfOk made (λ typed. typed.base ≡ None)

abbrev pub FindsAll : Infer → List SourceRead → (placed : TypedFiles → List PlacedFile) → Made → Type 0
FindsAll infer reads placed made = IfOk made (λ typed. (files : List SourceFile) → AreReads reads files → IsTypedOr infer files typed.names (placed typed) typed.rows typed.base)

abbrev pub Stand : List SourceRead → Made → Type 0
Stand reads made = IfOk made (λ typed. StandIn reads typed.rows)

abbrev pub Whole : List SourceRead → Made → Type 0
Whole reads made = IfOk made (λ typed. IsSome typed.base → (files : List SourceFile) → AreReads reads files → files_of_reads reads ≡ files)

module _ (infer : Infer) where
  is_phase : (files : List SourceFile) (broken sorted rows : List Row) → PhaseRows infer files broken → IsOrderOf broken sorted → rows ≡ sorted → IsPhase infer files rows
  is_phase files broken sorted rows phase order is = subst (IsPhase infer files) (sym is) (record { broken = broken; phase = phase; order = order })

  refused_or : (files : List SourceFile) (names : List (List ℕ)) (trees : List PlacedFile) (rows : List Row) (base : Option Program) → base ≡ None → IsPhase infer files rows → IsTypedOr infer files names trees rows base
  refused_or files names trees rows base none phase = subst (λ b. IsTypedOr infer files names trees rows b) (sym none) phase

  module _ (placed : TypedFiles → List PlacedFile) (reads : List SourceRead) (limits : List Row) (limited : Limited reads limits) where
    pub limited_made : (made : Made) → (limits ≡ [] → ⊥) → RefusesBy limits made → HasNone made → FindsAll infer reads placed made
    limited_made (Ok r) some by none = λ files are. refused_or files r.names (placed r) r.rows r.base none (is_phase files limits by.0 r.rows (inl (inl (record { are = limited files are; some = some }))) by.1 by.2)
    limited_made (Err e) some by none = tt

    module _ (within : limits ≡ []) where
      text_front : (files : List SourceFile) (rows : List Row) → AreReads reads files → TextRows (files_of_reads reads) rows → (rows ≡ [] → ⊥) → FrontRows files rows
      text_front files rows are (inl faulty) some =
          let w = within_limits reads limits limited within files are in
          inr (inl (record { within = w.1; are = subst (λ fs. FaultRows 0 fs rows) w.0 faulty; some = some }))
      text_front files rows are (inr g) some =
          let w = within_limits reads limits limited within files are in
          inr (inr (record { within = w.1; names = g.0; tokens = g.1; lexed = subst (λ fs. LexedFrom 0 known_names fs g.1 g.0) w.0 g.2; are = subst (λ fs. SyntaxRows 0 fs g.1 rows) w.0 g.3; some = some }))

      pub text_made : (rows : List Row) (made : Made) → TextRows (files_of_reads reads) rows → (rows ≡ [] → ⊥) → RefusesBy rows made → HasNone made → FindsAll infer reads placed made
      text_made rows (Ok r) text some by none = λ files are. refused_or files r.names (placed r) r.rows r.base none (is_phase files rows by.0 r.rows (inl (text_front files rows are text some)) by.1 by.2)
      text_made rows (Err e) text some by none = tt

      -- what is found of what was read is found of the files
      pub found_all : (names : List (List ℕ)) (trees : List PlacedFile) (rows : List Row) (base : Option Program) → IsTypedOr infer (files_of_reads reads) names trees rows base → (files : List SourceFile) → AreReads reads files → IsTypedOr infer files names trees rows base
      found_all names trees rows base found files are = subst (λ fs. IsTypedOr infer fs names trees rows base) (within_limits reads limits limited within files are).0 found

-- ---- names and trees, or none

abbrev pub HasNoNames : Made → Type 0
HasNoNames made = IfOk made (λ typed. typed.names ≡ [])

abbrev pub HasTreesOrNone : List SourceRead → (TypedFiles → List PlacedFile) → Made → Type 0
HasTreesOrNone reads placed made = IfOk made (λ typed. (files : List SourceFile) → AreReads reads files → AreTreesOrNone files typed.names (placed typed))

none_parsed : (files : List SourceFile) (names : List (List ℕ)) (trees : List PlacedFile) → names ≡ [] → NoneParsed files → AreTreesOrNone files names trees
none_parsed files names trees none no_trees = subst (λ ns. AreTreesOrNone files ns trees) (sym none) no_trees

module _ (placed : TypedFiles → List PlacedFile) (reads : List SourceRead) (limits : List Row) (limited : Limited reads limits) where
  pub limited_none : (made : Made) → (limits ≡ [] → ⊥) → HasNoNames made → HasTreesOrNone reads placed made
  limited_none (Ok r) some none = λ files are. none_parsed files r.names (placed r) none (λ names tokens trees parsed. some (limited files are ∙ parsed.within))
  limited_none (Err e) some none = tt

  module _ (infer : Infer) (within : limits ≡ []) (apart : (files : List SourceFile) (names : List (List ℕ)) (tokens : List (List Token)) (trees : List PlacedFile) (rows : List Row) → AreParsed files names tokens trees → FrontRows files rows → ⊥) where
    pub text_none : (rows : List Row) (made : Made) → TextRows (files_of_reads reads) rows → (rows ≡ [] → ⊥) → HasNoNames made → HasTreesOrNone reads placed made
    text_none rows (Ok r) text some none = λ files are. none_parsed files r.names (placed r) none (λ names tokens trees parsed. apart files names tokens trees rows parsed (text_front infer placed reads limits limited within files rows are text some))
    text_none rows (Err e) text some none = tt

pub are_parsed : (reads : List SourceRead) (limits : List Row) → Limited reads limits → limits ≡ [] → (names : List (List ℕ)) (tokens : List (List Token)) (trees : List PlacedFile) → ((files : List SourceFile) × AreReads reads files) → LexedFrom 0 known_names (files_of_reads reads) tokens names → ArePlaced tokens trees → AreParsed (files_of_reads reads) names tokens trees
are_parsed reads limits limited none names tokens trees some lexed placed =
    let w = within_limits reads limits limited none some.0 some.1 in
    record { within = ap limit_rows w.0 ∙ w.1; lexed = lexed; parsed = placed }

pub parsed_all : (reads : List SourceRead) (limits : List Row) → Limited reads limits → limits ≡ [] → (names : List (List ℕ)) (tokens : List (List Token)) (trees : List PlacedFile) → AreParsed (files_of_reads reads) names tokens trees → (files : List SourceFile) → AreReads reads files → AreTreesOrNone files names trees
parsed_all reads limits limited none names tokens trees parsed files are =
    trees_or_none files names tokens trees (subst (λ fs. AreParsed fs names tokens trees) (within_limits reads limits limited none files are).0 parsed)

pub found_whole : (reads : List SourceRead) (limits : List Row) → Limited reads limits → limits ≡ [] → (files : List SourceFile) → AreReads reads files → files_of_reads reads ≡ files
found_whole reads limits limited none files are = (within_limits reads limits limited none files are).0

-- ---- where rows stand, and that what was read is whole

pub limited_stands : (reads : List SourceRead) (limits : List Row) (made : Made) → Limited reads limits → ((files : List SourceFile) × AreReads reads files) → RefusesBy limits made → Stand reads made
limited_stands reads limits (Ok r) limited some by = subst (StandIn reads) (sym by.2) (limited_stand reads limits by.0 limited some by.1)
limited_stands reads limits (Err e) limited some by = tt

pub whole_stands : (reads : List SourceRead) (limits : List Row) (made : Made) → Limited reads limits → limits ≡ [] → ((files : List SourceFile) × AreReads reads files) → Stand reads made
whole_stands reads limits (Ok r) limited none some = all_stand reads limits r.rows limited none some
whole_stands reads limits (Err e) limited none some = tt

never_some : (base : Option Program) → base ≡ None → IsSome base → ⊥
never_some None e s = absurd cc
never_some (Some P) e s = absurd cc

pub refused_whole : (reads : List SourceRead) (made : Made) → HasNone made → Whole reads made
refused_whole reads (Ok r) none = λ some files are. absurd (never_some r.base none some)
refused_whole reads (Err e) none = tt

-- ---- files with trees

abbrev pub MadeTyping : Type 0
MadeTyping = Result Typing OutOfMemory

abbrev pub RefusesFound : List Row → MadeTyping → Type 0
RefusesFound rows made = IfOk made (λ typing. (sorted : List Row) × IsOrderOf rows sorted × (typing ≡ record { rows = sorted; base = None }))

module _ (infer : Infer) (files : List SourceFile) (names : List (List ℕ)) (trees : List PlacedFile) where
  -- a phase's rows
  refused_made : (rows : List Row) (made : MadeTyping) → PhaseRows infer files rows → RefusesFound rows made → IfOk made (IsTyping infer files names trees)
  refused_made rows (Ok r) phase by = subst (IsTyping infer files names trees) (sym by.2) (is_phase infer files rows by.0 by.0 phase by.1 refl)
  refused_made rows (Err e) phase by = tt

  -- rows of bodies and of what stands around them
  pub lowering_made : (tokens : List (List Token)) (rows : List Row) (made : MadeTyping) → AreDeclared files names tokens trees → rows ≡ lowering_rows trees → (lowering_rows trees ≡ [] → ⊥) → RefusesFound rows made → IfOk made (IsTyping infer files names trees)
  lowering_made tokens rows made declared are some by =
      refused_made rows made (inr (inr (inl (record { names = names; tokens = tokens; trees = trees; declared = declared; are = are; some = λ none. some (sym are ∙ none) })))) by

  -- rows of types
  pub types_made : (P : Program) (rows : List Row) (made : MadeTyping) → ProgramOf infer files names P → ((row : Row) → Contains rows row ↔ IsBaseRow P row) → (rows ≡ [] → ⊥) → RefusesFound rows made → IfOk made (IsTyping infer files names trees)
  types_made P rows made of_files are some by =
      refused_made rows made (inr (inr (inr (record { names = names; P = P; of_files = of_files; are = are; some = some })))) by

  -- a program whose types fit
  pub typed_found : (P Q : Program) (typing : Typing) → Q ≡ P → NoBaseRows P → ((of : ProgramOf infer files names P) × (of.trees ≡ trees)) → typing ≡ record { rows = []; base = Some Q } → IsTyping infer files names trees typing
  typed_found P Q typing same fit of is =
      let moved = subst (λ (R : Program). (of : ProgramOf infer files names R) × (of.trees ≡ trees)) (sym same) of in
      subst (IsTyping infer files names trees) (sym is) (refl, (record { of_files = moved.0; typed = subst NoBaseRows (sym same) fit }, moved.1))

-- ---- more files than there may be

pub too_many : (infer : Infer) (files : List SourceFile) (rows : List Row) → most_files < length files → rows ≡ row_at most_files B1 ∷ [] → IsPhase infer files rows
too_many infer files rows many is =
    is_phase infer files (row_at most_files B1 ∷ []) (row_at most_files B1 ∷ []) rows (inl (inl (record { are = many_limit files many; some = no_rows }))) (one_ordered (row_at most_files B1)) is
  where
    no_rows : row_at most_files B1 ∷ [] ≡ [] → ⊥
    no_rows e = cc
