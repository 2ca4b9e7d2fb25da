-- Files have one list of rows or one program.
use Rattle.std.proofs.Common.{◌≡◌, ◌↔◌, ℕ, List, inl, inr, sym, ap, ◌∙◌, subst}
use Rattle.std.specs.Prelude.{Contains}
use Rattle.jn_base.specs.declared.infer.Infer.{Infer}
use Rattle.jn_base.specs.declared.place.Row.{Row}
use Rattle.jn_trees.specs.declared.token.Token.{Token}
use Rattle.jn_places.specs.Placed.{PlacedFile}
use Rattle.jn_points.specs.declared.program.Program.{Program}
use Rattle.jn_points.specs.BaseRows.{IsBaseRow}
use Rattle.jn_program_law.specs.FileProgram.{inferring}
use Rattle.jn_diag.specs.Order.{IsOrderOf}
use Rattle.jn_front.specs.declared.source.SourceFile.{SourceFile}
use Rattle.jn_front.specs.Phases.{AreParsed, FrontRows}
use Rattle.jn_phases.specs.Phases.{AreDeclared, AreLowered, IsPhase, LoweringRows, PhaseRows, ProgramOf, ProgramRows, TableRows, TreeRows, TypeRows, TypedProgramOf, lowering_rows, table_rows}
use Rattle.jn_phases.proofs.TypeRows.{never_typed, same_order}

-- files have at most one list of names, one of tokens and one of trees
abbrev pub OneReading : Type 0
OneReading = (files : List SourceFile) (names others : List (List ℕ)) (tokens us : List (List Token)) (trees vs : List PlacedFile) → AreParsed files names tokens trees → AreParsed files others us vs → (names ≡ others) × (tokens ≡ us) × (trees ≡ vs)

module _ (infer : Infer) where
  -- files have one program, and its names have one list of texts
  pub one_program : OneReading → (files : List SourceFile) (names others : List (List ℕ)) (P Q : Program) → ProgramOf infer files names P → ProgramOf infer files others Q → (names ≡ others) × (P ≡ Q)
  one_program parsed files names others P Q x y =
      let same = parsed files names others x.tokens y.tokens x.trees y.trees x.lowered.declared.parsed y.lowered.declared.parsed in
      (same.0, x.is ∙ ap (inferring infer) same.2 ∙ sym y.is)

  module _ (fronted : (files : List SourceFile) (rows others : List Row) → FrontRows files rows → FrontRows files others → rows ≡ others) (parsed : OneReading) (apart : (files : List SourceFile) (names : List (List ℕ)) (tokens : List (List Token)) (trees : List PlacedFile) (rows : List Row) → AreParsed files names tokens trees → FrontRows files rows → ⊥) (ordered : (old one other : List Row) → IsOrderOf old one → IsOrderOf old other → one ≡ other) where
    -- the rows of one phase are one list, and where there are any, no later phase is looked at

    table_twice : (files : List SourceFile) (rows others : List Row) → TableRows files rows → TableRows files others → rows ≡ others
    table_twice files rows others x y =
        let same = (parsed files x.names y.names x.tokens y.tokens x.trees y.trees x.parsed y.parsed).2 in
        x.are ∙ ap table_rows same ∙ sym y.are

    table_apart : (files : List SourceFile) (names : List (List ℕ)) (tokens : List (List Token)) (trees : List PlacedFile) (rows : List Row) → AreDeclared files names tokens trees → TableRows files rows → ⊥
    table_apart files names tokens trees rows x y =
        let same = (parsed files y.names names y.tokens tokens y.trees trees y.parsed x.parsed).2 in
        y.some (y.are ∙ ap table_rows same ∙ x.rowless)

    lowering_twice : (files : List SourceFile) (rows others : List Row) → LoweringRows files rows → LoweringRows files others → rows ≡ others
    lowering_twice files rows others x y =
        let same = (parsed files x.names y.names x.tokens y.tokens x.trees y.trees x.declared.parsed y.declared.parsed).2 in
        x.are ∙ ap lowering_rows same ∙ sym y.are

    lowering_apart : (files : List SourceFile) (names : List (List ℕ)) (tokens : List (List Token)) (trees : List PlacedFile) (rows : List Row) → AreLowered files names tokens trees → LoweringRows files rows → ⊥
    lowering_apart files names tokens trees rows x y =
        let same = (parsed files y.names names y.tokens tokens y.trees trees y.declared.parsed x.declared.parsed).2 in
        y.some (y.are ∙ ap lowering_rows same ∙ x.rowless)

    types_apart : (files : List SourceFile) (names : List (List ℕ)) (P : Program) (rows : List Row) → TypedProgramOf infer files names P → TypeRows infer files rows → ⊥
    types_apart files names P rows x y =
        let same = (one_program parsed files names y.names P y.P x.of_files y.of_files).1 in
        never_typed P rows y.some (subst (λ Q. (row : Row) → Contains rows row ↔ IsBaseRow Q row) (sym same) y.are) x.typed

    -- in order

    types_once : (files : List SourceFile) (broken more rows others : List Row) → TypeRows infer files broken → TypeRows infer files more → IsOrderOf broken rows → IsOrderOf more others → rows ≡ others
    types_once files broken more rows others x y =
        let same = (one_program parsed files x.names y.names x.P y.P x.of_files y.of_files).1 in
        same_order ordered (IsBaseRow y.P) broken more rows others (subst (λ P. (row : Row) → Contains broken row ↔ IsBaseRow P row) same x.are) y.are

    in_order : (broken more rows others : List Row) → broken ≡ more → IsOrderOf broken rows → IsOrderOf more others → rows ≡ others
    in_order broken more rows others same x y = ordered more rows others (subst (λ bs. IsOrderOf bs rows) same x) y

    program_once : (files : List SourceFile) (broken more rows others : List Row) → ProgramRows infer files broken → ProgramRows infer files more → IsOrderOf broken rows → IsOrderOf more others → rows ≡ others
    program_once files broken more rows others (inl x) (inl y) a b = in_order broken more rows others (lowering_twice files broken more x y) a b
    program_once files broken more rows others (inl x) (inr y) a b = absurd (lowering_apart files y.names y.of_files.tokens y.of_files.trees broken y.of_files.lowered x)
    program_once files broken more rows others (inr x) (inl y) a b = absurd (lowering_apart files x.names x.of_files.tokens x.of_files.trees more x.of_files.lowered y)
    program_once files broken more rows others (inr x) (inr y) a b = types_once files broken more rows others x y a b

    -- files whose classes and members have no row

    abbrev HasHeads : List SourceFile → Type 0
    HasHeads files = (names : List (List ℕ)) × (tokens : List (List Token)) × (trees : List PlacedFile) × AreDeclared files names tokens trees

    heads_of : (files : List SourceFile) (rows : List Row) → ProgramRows infer files rows → HasHeads files
    heads_of files rows (inl x) = (x.names, x.tokens, x.trees, x.declared)
    heads_of files rows (inr x) = (x.names, x.of_files.tokens, x.of_files.trees, x.of_files.lowered.declared)

    table_before : (files : List SourceFile) (rows : List Row) → HasHeads files → TableRows files rows → ⊥
    table_before files rows h t = table_apart files h.0 h.1 h.2 rows h.3 t

    tree_once : (files : List SourceFile) (broken more rows others : List Row) → TreeRows infer files broken → TreeRows infer files more → IsOrderOf broken rows → IsOrderOf more others → rows ≡ others
    tree_once files broken more rows others (inl x) (inl y) a b = in_order broken more rows others (table_twice files broken more x y) a b
    tree_once files broken more rows others (inl x) (inr y) a b = absurd (table_before files broken (heads_of files more y) x)
    tree_once files broken more rows others (inr x) (inl y) a b = absurd (table_before files more (heads_of files broken x) y)
    tree_once files broken more rows others (inr x) (inr y) a b = program_once files broken more rows others x y a b

    -- files that have trees

    abbrev HasTrees : List SourceFile → Type 0
    HasTrees files = (names : List (List ℕ)) × (tokens : List (List Token)) × (trees : List PlacedFile) × AreParsed files names tokens trees

    trees_of : (files : List SourceFile) (rows : List Row) → TreeRows infer files rows → HasTrees files
    trees_of files rows (inl x) = (x.names, x.tokens, x.trees, x.parsed)
    trees_of files rows (inr x) = let h = heads_of files rows x in (h.0, h.1, h.2, h.3.parsed)

    front_before : (files : List SourceFile) (rows : List Row) → HasTrees files → FrontRows files rows → ⊥
    front_before files rows h f = apart files h.0 h.1 h.2 rows h.3 f

    phase_once : (files : List SourceFile) (broken more rows others : List Row) → PhaseRows infer files broken → PhaseRows infer files more → IsOrderOf broken rows → IsOrderOf more others → rows ≡ others
    phase_once files broken more rows others (inl x) (inl y) a b = in_order broken more rows others (fronted files broken more x y) a b
    phase_once files broken more rows others (inl x) (inr y) a b = absurd (front_before files broken (trees_of files more y) x)
    phase_once files broken more rows others (inr x) (inl y) a b = absurd (front_before files more (trees_of files broken x) y)
    phase_once files broken more rows others (inr x) (inr y) a b = tree_once files broken more rows others x y a b

    pub one_refused : (files : List SourceFile) (rows others : List Row) → IsPhase infer files rows → IsPhase infer files others → rows ≡ others
    one_refused files rows others x y = phase_once files x.broken y.broken rows others x.phase y.phase x.order y.order

    -- a typed program, or a phase with rows

    program_apart : (files : List SourceFile) (names : List (List ℕ)) (P : Program) (rows : List Row) → TypedProgramOf infer files names P → ProgramRows infer files rows → ⊥
    program_apart files names P rows x (inl y) = lowering_apart files names x.of_files.tokens x.of_files.trees rows x.of_files.lowered y
    program_apart files names P rows x (inr y) = types_apart files names P rows x y

    tree_apart : (files : List SourceFile) (names : List (List ℕ)) (P : Program) (rows : List Row) → TypedProgramOf infer files names P → TreeRows infer files rows → ⊥
    tree_apart files names P rows x (inl y) = table_apart files names x.of_files.tokens x.of_files.trees rows x.of_files.lowered.declared y
    tree_apart files names P rows x (inr y) = program_apart files names P rows x y

    phase_apart : (files : List SourceFile) (names : List (List ℕ)) (P : Program) (rows : List Row) → TypedProgramOf infer files names P → PhaseRows infer files rows → ⊥
    phase_apart files names P rows x (inl y) = apart files names x.of_files.tokens x.of_files.trees rows x.of_files.lowered.declared.parsed y
    phase_apart files names P rows x (inr y) = tree_apart files names P rows x y

    pub refused_apart : (files : List SourceFile) (names : List (List ℕ)) (P : Program) (rows : List Row) → TypedProgramOf infer files names P → IsPhase infer files rows → ⊥
    refused_apart files names P rows x y = phase_apart files names P y.broken x y.phase
