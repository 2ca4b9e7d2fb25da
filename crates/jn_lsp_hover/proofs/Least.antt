-- What is shown goes by the least signature and the least tables, which are one.
use Rattle.std.proofs.Common.{◌≡◌, ℕ, ◌<◌, List, [], length, Option, None, inl, inr, sym, ◌∙◌, subst, arith}
use Rattle.std.specs.Prelude.{slice_index_or}
use Rattle.std.proofs.lemmas.List.{ext_get_or}
use Rattle.jn_base.specs.declared.infer.Infer.{Infer}
use Rattle.jn_base.specs.declared.place.Row.{Row}
use Rattle.jn_env.specs.Order.{Table}
use Rattle.jn_front.specs.declared.source.SourceFile.{SourceFile}
use Rattle.jn_front.specs.Phases.{AreParsed}
use Rattle.jn_heads.specs.Extract.{heads}
use Rattle.jn_inference_law.specs.Solution.{IsLeastSignature}
use Rattle.jn_lsp_text.specs.declared.encoding.Encoding.{Encoding}
use Rattle.jn_lsp_text.specs.declared.position.Position.{Position}
use Rattle.jn_lsp_text.specs.declared.reply.Hover.{Hover}
use Rattle.jn_notes.specs.Noted.{AreLeastTables}
use Rattle.jn_phases.specs.Phases.{IsPhase, ProgramOf, TypedProgramOf}
use Rattle.jn_places.specs.Placed.{PlacedFile}
use Rattle.jn_points.specs.declared.program.Program.{Program}
use Rattle.jn_quals.specs.Qualifier.{Qualifier}
use Rattle.jn_recheck.specs.Files.{place_of}
use Rattle.jn_transfer.specs.Least.{IsLeastTable}
use Rattle.jn_trees.specs.declared.token.Token.{Token}
use Rattle.jn_lsp_hover.specs.Hovered.{IsAtPlace, IsHover, IsSolved}

-- the least tables of all bodies are one list
one_list : (P : Program) (s : List Qualifier) → ((b : ℕ) (t u : Table) → IsLeastTable P s b t → IsLeastTable P s b u → t ≡ u)
    → (ts us : List Table) → AreLeastTables P s ts → AreLeastTables P s us → ts ≡ us
one_list P s one ts us h i =
    let l = h.long in
    let m = i.long in
    ext_get_or [] ts us (l ∙ sym m) (λ b lt.
    let low : b < length P.bodies = omega (arith, lt, l) in
    one b (slice_index_or ts b []) (slice_index_or us b []) (h.least b low) (i.least b low))

module _ (infer : Infer) (encoding : Encoding) (files : List SourceFile) (name : List ℕ) (position : Position)
    (one_front : (names others : List (List ℕ)) (tokens us : List (List Token)) (trees vs : List PlacedFile) → AreParsed files names tokens trees → AreParsed files others us vs → (names ≡ others) × (tokens ≡ us) × (trees ≡ vs))
    (one_program : (names others : List (List ℕ)) (P Q : Program) → ProgramOf infer files names P → ProgramOf infer files others Q → (names ≡ others) × (P ≡ Q))
    (apart : (names : List (List ℕ)) (P : Program) (rows : List Row) → TypedProgramOf infer files names P → IsPhase infer files rows → ⊥)
    (one_signature : (P : Program) (s t : List Qualifier) → IsLeastSignature P s → IsLeastSignature P t → s ≡ t)
    (one_table : (P : Program) (s : List Qualifier) (b : ℕ) (t u : Table) → IsLeastTable P s b t → IsLeastTable P s b u → t ≡ u) where
  of_solved : (names : List (List ℕ)) (P : Program) (s : List Qualifier) (tables : List Table) (hover : Option Hover) → (typed : TypedProgramOf infer files names P)
      → IsLeastSignature P s → AreLeastTables P s tables → IsSolved infer encoding files name position hover
      → IsAtPlace encoding files names P s tables (heads typed.of_files.trees) position (place_of name files) hover
  of_solved names P s tables hover typed least solved h =
      let there = h.of_files.of_files in
      let here = typed.of_files in
      let programs = one_program h.names names h.P P there here in
      let fronts = one_front h.names names there.tokens here.tokens there.trees here.trees there.lowered.declared.parsed here.lowered.declared.parsed in
      let least_there : IsLeastSignature P h.signature = subst (λ (Q : Program). IsLeastSignature Q h.signature) programs.1 h.least in
      let signatures : h.signature ≡ s = one_signature P h.signature s least_there least in
      let by_program : AreLeastTables P h.signature h.tables = subst (λ (Q : Program). AreLeastTables Q h.signature h.tables) programs.1 h.solved in
      let by_signature : AreLeastTables P s h.tables = subst (λ (t : List Qualifier). AreLeastTables P t h.tables) signatures by_program in
      let all : h.tables ≡ tables = one_list P s (one_table P s) h.tables tables by_signature solved in
      subst (λ (trees : List PlacedFile). IsAtPlace encoding files names P s tables (heads trees) position (place_of name files) hover) fronts.2
      (subst (λ (ts : List Table). IsAtPlace encoding files names P s ts (heads there.trees) position (place_of name files) hover) all
      (subst (λ (t : List Qualifier). IsAtPlace encoding files names P t h.tables (heads there.trees) position (place_of name files) hover) signatures
      (subst (λ (Q : Program). IsAtPlace encoding files names Q h.signature h.tables (heads there.trees) position (place_of name files) hover) programs.1
      (subst (λ (ns : List (List ℕ)). IsAtPlace encoding files ns h.P h.signature h.tables (heads there.trees) position (place_of name files) hover) programs.0 h.is))))

  pub by_the_least : (names : List (List ℕ)) (P : Program) (s : List Qualifier) (tables : List Table) (hover : Option Hover) → (typed : TypedProgramOf infer files names P)
      → IsLeastSignature P s → AreLeastTables P s tables → IsHover infer encoding files name position hover
      → IsAtPlace encoding files names P s tables (heads typed.of_files.trees) position (place_of name files) hover
  by_the_least names P s tables hover typed least solved (inl (rows, phase, none)) = absurd (apart names P rows typed phase)
  by_the_least names P s tables hover typed least solved (inr h) = of_solved names P s tables hover typed least solved h

  pub none_of_refused : (rows : List Row) (hover : Option Hover) → IsPhase infer files rows → IsHover infer encoding files name position hover → hover ≡ None
  none_of_refused rows hover phase (inl (others, is, none)) = none
  none_of_refused rows hover phase (inr h) = absurd (apart h.names h.P rows h.of_files phase)
