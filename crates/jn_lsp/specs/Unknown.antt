-- Documents whose texts the server doesn't know, since what the client sent of them can't be read.
use Rattle.std.specs.Prelude.{ℕ, ◌++◌, Bool, true, false, not, List, [], ◌∷◌, Option, Some, None, bytes_eq, codes, filter, map, if◌then◌else◌}
use Rattle.jn_front.specs.declared.source.SourceFile.{SourceFile}
use Rattle.jn_front.specs.Files.{names_of}
use Rattle.jn_lsp_text.specs.declared.choice.Choice.{Choice}
use Rattle.jn_lsp_text.specs.declared.choice.Choice.TheVariants as choice
use Rattle.jn_lsp_text.specs.declared.message.Message.{Message}
use Rattle.jn_lsp_text.specs.declared.message.Message.TheVariants.{Initialize, DidOpen, DidClose, BadDocument, BadParams, NoMessage, NoJson, BadHeader, TooLarge}
use Rattle.jn_lsp_text.specs.declared.reply.Diagnostic.{Diagnostic}
use Rattle.jn_lsp_text.specs.declared.reply.Reply.{Reply}
use Rattle.jn_lsp_text.specs.declared.reply.Reply.TheVariants.{Show}
use Rattle.jn_lsp.specs.declared.diagnostics.Told.{Told}
use Rattle.jn_lsp.specs.declared.phase.Phase.{Phase}
use Rattle.jn_lsp.specs.declared.phase.Phase.TheVariants.{Waiting, Serving, ShutDown, Exited}
use Rattle.jn_lsp.specs.Edits.{is_java}
use Rattle.jn_lsp.specs.Names.{is_among}

-- ---- names

-- those of the names that aren't among the unknown ones
abbrev pub newly : List (List ℕ) → List (List ℕ) → List (List ℕ)
newly unknown names = filter (λ name. not (is_among unknown name)) names

-- the document whose text a message leaves open; where that can't be said, each that is open
abbrev pub doubted_in : Option (List ℕ) → List (List ℕ)
doubted_in None = []
doubted_in (Some name) = if is_java name then name ∷ [] else []

abbrev pub doubted_by : Message → List SourceFile → List (List ℕ)
doubted_by (BadDocument name) documents = doubted_in (Some name)
doubted_by (BadParams None) documents = names_of documents
doubted_by (BadParams (Some id)) documents = []
doubted_by NoMessage documents = names_of documents
doubted_by NoJson documents = names_of documents
doubted_by BadHeader documents = names_of documents
doubted_by TooLarge documents = names_of documents
doubted_by _ documents = []

-- the document whose text is known again: it is opened, or it is closed
abbrev pub settled_by : Message → Option (List ℕ)
settled_by (DidOpen name version text) = Some name
settled_by (DidClose name) = Some name
settled_by _ = None

abbrev pub without : Option (List ℕ) → List (List ℕ) → List (List ℕ)
without None names = names
without (Some name) names = filter (λ other. not (bytes_eq other name)) names

-- the names of unknown texts after a message
abbrev pub unknown_behind : Message → List SourceFile → List (List ℕ) → List (List ℕ)
unknown_behind m documents unknown = without (settled_by m) unknown ++ newly unknown (doubted_by m documents)

-- a message of these forms may change which texts are unknown
abbrev pub touches : Message → Bool
touches (DidClose name) = true
touches (BadDocument name) = true
touches (BadParams id) = true
touches NoMessage = true
touches NoJson = true
touches BadHeader = true
touches TooLarge = true
touches _ = false

-- ---- what is told

-- of an unknown text nothing
abbrev pub unless_unknown : List (List ℕ) → List ℕ → List Diagnostic → List Diagnostic
unless_unknown unknown name diagnostics = if is_among unknown name then [] else diagnostics

abbrev pub told_as : List ℕ → List Diagnostic → Told
told_as name diagnostics = record { name = name; diagnostics = diagnostics }

abbrev pub hushed_one : List (List ℕ) → Told → Told
hushed_one unknown one = told_as one.name (unless_unknown unknown one.name one.diagnostics)

abbrev pub hushed : List (List ℕ) → List Told → List Told
hushed unknown told = map (hushed_one unknown) told

-- ---- warnings

abbrev pub doubt_words : List ℕ → List ℕ
doubt_words name = codes "nullcheck: " ++ name ++ codes ": what was sent of this document can't be read; it isn't checked until it is opened again"

abbrev pub doubt : List ℕ → Reply
doubt name = Show (doubt_words name)

-- a warning for each text that a message leaves open and that was known before
abbrev pub doubts : List (List ℕ) → List (List ℕ) → List Reply
doubts unknown names = map doubt (newly unknown names)

-- what a message says of the members that are inferred
abbrev pub choice_in : Message → Choice
choice_in (Initialize id folders infer files exclude markup encoding progress) = infer
choice_in _ = choice.Unsaid

-- a warning of a choice that says nothing
abbrev pub choice_words : List ℕ
choice_words = codes "nullcheck: initializationOptions.infer is \"private\" or \"package\"; this one is left out"

abbrev pub misread : Choice → List Reply
misread choice.Unsaid = []
misread (choice.Said infer) = []
misread choice.Wrong = Show choice_words ∷ []

-- a choice is taken only before the server serves, and documents are open only while it does
abbrev pub doubts_in : Phase → Message → List SourceFile → List (List ℕ) → List Reply
doubts_in Waiting m documents unknown = misread (choice_in m)
doubts_in Serving m documents unknown = doubts unknown (doubted_by m documents)
doubts_in ShutDown _ documents unknown = []
doubts_in (Exited in_order) _ documents unknown = []
