-- The actions that are offered at a range of a file: for each row there that speaks of a value or a pair, the first slot of its first chain whose annotation
-- can be written; and after those, for each row there, the slots at which it wants null. Each tells the diagnostics that it mends.
use Rattle.std.specs.Prelude.{ℕ, ◌≡◌, Bool, cond, filter, flat_map, List, [], ◌∷◌, ◌++◌, map, Option, Some, None, option_to_list}
use Rattle.jn_base.specs.declared.infer.Infer.{Infer}
use Rattle.jn_base.specs.declared.place.Row.{Row}
use Rattle.jn_command.specs.declared.report.Report.{Report}
use Rattle.jn_command.specs.declared.report.Report.TheVariants.{Refused, Checked}
use Rattle.jn_env.specs.Order.{Table}
use Rattle.jn_front.specs.declared.source.SourceFile.{SourceFile}
use Rattle.jn_places.specs.Forget.{forget_file}
use Rattle.jn_points.specs.declared.program.Program.{Program}
use Rattle.jn_quals.specs.Qualifier.{Qualifier}
use Rattle.jn_reasons_law.specs.declared.item.Item.{Item}
use Rattle.jn_reasons_law.specs.declared.item.Item.TheVariants.{AtSlot, AtRegister}
use Rattle.jn_reasons_law.specs.declared.item.Step.{Step}
use Rattle.jn_reasons_law.specs.Choice.{IsFirstChain}
use Rattle.jn_trees.specs.declared.token.Token.{Token}
use Rattle.jn_trees.specs.Trees.{SourceTree}
use Rattle.jn_annotate.specs.Shared.{shared_slots}
use Rattle.jn_notes.specs.Asked.{item_of}
use Rattle.jn_note_words.specs.declared.note.Notes.{Notes}
use Rattle.jn_notes.specs.Noted.{AreLeastTables, AreNotesOf}
use Rattle.jn_lsp_text.specs.declared.encoding.Encoding.{Encoding}
use Rattle.jn_lsp_text.specs.declared.range.Range.{Range}
use Rattle.jn_lsp_text.specs.declared.reply.Action.{Action}
use Rattle.jn_lsp_text.specs.declared.reply.Diagnostic.{Diagnostic}
use Rattle.jn_report.specs.Report.{IsCheckedBy, IsReport}
use Rattle.jn_lsp_actions.specs.Asking.{is_asked}
use Rattle.jn_lsp_actions.specs.declared.edits.Writing.{Writing}
use Rattle.jn_lsp_actions.specs.declared.edits.Writing.TheVariants.{Inferred, Null}
use Rattle.jn_lsp_actions.specs.Mended.{comes, diagnostics_of, mended}
use Rattle.jn_lsp_actions.specs.Own.{rows_want}
use Rattle.jn_lsp_actions.specs.Written.{give, is_written}

-- ---- the slot of a row

module _ (test : ℕ → Bool) where
  abbrev pub slot_if : Item → Option ℕ → Option ℕ
  slot_if (AtSlot slot bit) other = cond (test slot) (Some slot) other
  slot_if (AtRegister body point register bit) other = other

  -- the first slot of a chain that passes
  abbrev pub first_slot : List Step → Option ℕ
  first_slot [] = None
  first_slot (step ∷ steps) = slot_if step.item (first_slot steps)

module _ (P : Program) (s : List Qualifier) (tables : List Table) (test : ℕ → Bool) where
  -- the first one of the first chain from an item; none where there is no item
  abbrev pub AreSlotsFrom : Option Item → List ℕ → Type 0
  AreSlotsFrom None slots = slots ≡ []
  AreSlotsFrom (Some item) slots = (steps : List Step) × IsFirstChain P s tables item steps × (slots ≡ option_to_list (first_slot test steps))

  -- row by row
  abbrev pub AreSlotsOf : List Row → List (List ℕ) → Type 0
  AreSlotsOf [] [] = Unit {0}
  AreSlotsOf [] (slots ∷ more) = ⊥
  AreSlotsOf (row ∷ rows) [] = ⊥
  AreSlotsOf (row ∷ rows) (slots ∷ more) = AreSlotsFrom (item_of P s row tables) slots × AreSlotsOf rows more

-- ---- actions

module _ (give : ℕ → List Action) where
  -- what is given for slots, once for a slot, where it comes last
  abbrev pub given : List ℕ → List Action
  given [] = []
  given (slot ∷ slots) = cond (comes slot slots) [] (give slot) ++ given slots

module _ (encoding : Encoding) (files : List SourceFile) (names : List (List ℕ)) (tokens : List (List Token)) (trees : List SourceTree) (P : Program) (s : List Qualifier) where
  -- what is given for the slots of rows, which mends the diagnostics of these rows
  abbrev pub given_for : Writing → List (List ℕ) → List Diagnostic → List Action
  given_for writing wants diagnostics = given (give encoding files names tokens trees P s writing (mended wants diagnostics)) (flat_map (λ slots. slots) wants)

  module _ (rows : List Row) (diagnostics : List Diagnostic) where
    -- those of what is inferred, for rows of the rules with these diagnostics
    pub record AreWritten (actions : List Action) : Type 0 where
      pub tables : List Table
      pub solved : AreLeastTables P s tables
      pub wants : List (List ℕ)
      pub each : AreSlotsOf P s tables (is_written encoding files tokens trees P s) rows wants
      pub are : actions ≡ given_for Inferred wants diagnostics

    -- none where a field shares its type with one of another qualifier, as there is no annotating then
    abbrev pub AreUnlessShared : List ℕ → List Action → Type 0
    AreUnlessShared [] actions = AreWritten actions
    AreUnlessShared (slot ∷ shared) actions = actions ≡ []

    abbrev pub AreOfInferred : List Action → Type 0
    AreOfInferred actions = AreUnlessShared (shared_slots P s trees P.fields) actions

    -- those that write null where a row wants it
    pub record AreNulls (actions : List Action) : Type 0 where
      pub tables : List Table
      pub solved : AreLeastTables P s tables
      pub are : actions ≡ given_for Null (rows_want P s tables rows) diagnostics

    -- the first, and then the others
    pub record AreOfRows (actions : List Action) : Type 0 where
      pub inferred : List Action
      pub nulls : List Action
      pub of_inferred : AreOfInferred inferred
      pub of_nulls : AreNulls nulls
      pub are : actions ≡ inferred ++ nulls

  -- those of these rows, each with its notes
  pub record AreOfAsked (rows : List Row) (actions : List Action) : Type 0 where
    pub notes : List Notes
    pub noted : AreNotesOf P names s rows notes
    pub of_rows : AreOfRows rows (diagnostics_of encoding files rows notes) actions

module _ (encoding : Encoding) (files : List SourceFile) (name : List ℕ) (range : Range) where
  abbrev pub is_asked_row : Row → Bool
  is_asked_row row = is_asked encoding files name range row.span

  -- those of the rows that are asked for, of files with this program and its least signature, of which these are the rows of the rules
  abbrev pub AreOfRules : List (List ℕ) → List (List Token) → List SourceTree → Program → List Qualifier → List Row → List Action → Type 0
  AreOfRules names tokens trees P s rows actions = AreOfAsked encoding files names tokens trees P s (filter is_asked_row rows) actions

module _ (infer : Infer) (encoding : Encoding) (files : List SourceFile) (name : List ℕ) (range : Range) where
  -- those of a report: refused files get none
  abbrev pub AreOffered : Report → List Action → Type 0
  AreOffered (Refused rows) actions = actions ≡ []
  AreOffered (Checked rows) actions = (checked : IsCheckedBy infer files rows) × AreOfRules encoding files name range checked.names checked.of_files.of_files.tokens (map forget_file checked.of_files.of_files.trees) checked.P checked.rules.signature rows actions

  -- those of the files' report, where these members are inferred
  pub record AreActions (actions : List Action) : Type 0 where
    pub report : Report
    pub is : IsReport infer files report
    pub offered : AreOffered report actions
