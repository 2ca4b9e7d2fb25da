-- The report as a log of one run in SARIF (Static Analysis Results Interchange Format, version 2.1.0, OASIS).
use Rattle.std.specs.Prelude.{ℕ, zero, suc, ◌+◌, ◌==◌, ◌++◌, Bool, List, [], ◌∷◌, Option, Some, None, codes, decimal, filter, if◌then◌else◌}
use Rattle.std.specs.List.{flat_map, list_any}
use Rattle.jn_base.specs.Codes.{code_name}
use Rattle.jn_base.specs.Messages.{code_cure, code_message}
use Rattle.jn_base.specs.declared.code.Code.{Code}
use Rattle.jn_diag.specs.Order.{code_place}
use Rattle.jn_diag.specs.declared.shown.Verdict.{Verdict}
use Rattle.jn_reporters.specs.Anchors.{code_anchor}
use Rattle.jn_report_formats.specs.Escapes.{escaped}
use Rattle.jn_reporters.specs.Reports.{all_codes}
use Rattle.jn_report_formats.specs.declared.escapes.Escape.TheVariants.{Json, Uri}
use Rattle.jn_report_formats.specs.Kept.{documented}
use Rattle.jn_reporters.specs.Words.{note_words, told}
use Rattle.jn_reporters.specs.declared.shown.ShownNote.{ShownNote}
use Rattle.jn_reporters.specs.declared.shown.ShownRow.{ShownRow}
use Rattle.jn_report_formats.specs.declared.kept.KeptRow.{KeptRow}

-- an item of an array after another, and all items after the first
unfoldable pub next : {A : Type 0} → (A → List ℕ) → A → List ℕ
next item x = codes ",\n" ++ item x

abbrev pub further : {A : Type 0} → (A → List ℕ) → List A → List ℕ
further item xs = flat_map (next item) xs

-- the items of an array
abbrev pub listed : {A : Type 0} → (A → List ℕ) → List A → List ℕ
listed item [] = []
listed item (x ∷ xs) = item x ++ further item xs

-- whether some row has the code
abbrev pub occurs : List KeptRow → Code → Bool
occurs rows code = list_any (λ (row : KeptRow). code_place row.code == code_place code) rows

-- the codes that occur, each once, in the order of the codes
abbrev pub occurring : List KeptRow → List Code → List Code
occurring rows codes = filter (occurs rows) codes

-- a reportingDescriptor (3.49): what is wrong, the same with its cure, and the cure alone
abbrev pub rule_short : Code → List ℕ
rule_short code =
    codes "            {\"id\": \"" ++ code_name code ++ codes "\", \"shortDescription\": {\"text\": \""
    ++ escaped Json (code_message code) ++ codes "\"}, "

abbrev pub rule_full : Code → List ℕ
rule_full code = codes "\"fullDescription\": {\"text\": \"" ++ escaped Json (told code) ++ codes "\"}, "

abbrev pub rule_help : Code → List ℕ
rule_help code = codes "\"help\": {\"text\": \"" ++ escaped Json (code_cure code) ++ codes "\"}"

-- where the code is explained (3.49.12): the anchor of its text after the address; nothing where no address is known
unfoldable pub uri_member : Option (List ℕ) → Code → List ℕ
uri_member None code = codes "}"
uri_member (Some address) code = codes ", \"helpUri\": \"" ++ escaped Json (address ++ codes "#" ++ code_anchor code) ++ codes "\"}"

-- a rule without where it is explained
unfoldable pub rule_words : Code → List ℕ
rule_words code = rule_short code ++ rule_full code ++ rule_help code

abbrev pub rule_object : Option (List ℕ) → Code → List ℕ
rule_object address code = rule_words code ++ uri_member address code

-- a result (3.27): its rule and its message, and its one location (3.28), a file and a region, whose lines and columns are from 1
abbrev pub result_meaning : KeptRow → List ℕ
result_meaning row =
    codes "        {\"ruleId\": \"" ++ code_name row.code ++ codes "\", \"level\": \"error\", \"message\": {\"text\": \""
    ++ escaped Json (told row.code) ++ codes "\"}, "

abbrev pub result_file : KeptRow → List ℕ
result_file row = codes "\"locations\": [{\"physicalLocation\": {\"artifactLocation\": {\"uri\": \"" ++ escaped Uri row.name ++ codes "\"}, "

abbrev pub numbered : List ℕ → ℕ → List ℕ
numbered front number = front ++ decimal number

-- a region (3.30), and the end of the physical location (3.29) that it stands in
abbrev pub region_start : ℕ → ℕ → List ℕ
region_start line col = numbered (codes "\"region\": {\"startLine\": ") line ++ numbered (codes ", \"startColumn\": ") col

abbrev pub region : ℕ → ℕ → List ℕ
region line col = region_start line col ++ codes "}}"

-- the same with its end: the column after the last character
abbrev pub region_end : ℕ → ℕ → List ℕ
region_end line col = numbered (codes ", \"endLine\": ") line ++ numbered (codes ", \"endColumn\": ") col ++ codes "}}"

abbrev pub result_region : KeptRow → List ℕ
result_region row = region_start row.line row.col ++ region_end row.end_line row.end_col ++ codes "}]"

abbrev pub result_place : KeptRow → List ℕ
result_place row = result_file row ++ result_region row

-- the fingerprint (3.27.17) of the row's code and line, as a decimal number; none where no line is shown
unfoldable pub print_member : Option ℕ → List ℕ
print_member None = codes "}"
print_member (Some print) = codes ", \"partialFingerprints\": {\"codeAndLine/v1\": \"" ++ decimal print ++ codes "\"}}"

-- the related location (3.27.22) of a note: a number of its own (3.28.2), its place, and what it tells (3.28.5)
abbrev pub related_id : ℕ → List ℕ
related_id id = codes "{\"id\": " ++ decimal id ++ codes ", "

abbrev pub related_file : ShownNote → List ℕ
related_file note = codes "\"physicalLocation\": {\"artifactLocation\": {\"uri\": \"" ++ escaped Uri note.name ++ codes "\"}, "

abbrev pub related_words : ShownNote → List ℕ
related_words note = codes ", \"message\": {\"text\": \"" ++ escaped Json (note_words note) ++ codes "\"}}"

abbrev pub related_object : ℕ → ShownNote → List ℕ
related_object id note = related_id id ++ related_file note ++ region note.line note.col ++ related_words note

-- a comma stands between two
abbrev pub comma_before : ℕ → List ℕ
comma_before id = if id == 1 then [] else codes ", "

unfoldable pub next_related : ℕ → ShownNote → List ℕ
next_related id note = comma_before id ++ related_object id note

-- numbered from this number on
abbrev pub related_from : ℕ → List ShownNote → List ℕ
related_from id [] = []
related_from id (note ∷ notes) = next_related id note ++ related_from (id + 1) notes

abbrev pub related_some : List ShownNote → List ℕ
related_some notes = codes ", \"relatedLocations\": [" ++ related_from 1 notes ++ codes "]"

-- nothing where there are no notes
unfoldable pub related_member : List ShownNote → List ℕ
related_member [] = []
related_member (note ∷ notes) = related_some (note ∷ notes)

-- how many notes were left out, in the result's property bag (3.8); nothing where none was
unfoldable pub more_member : ℕ → List ℕ
more_member zero = []
more_member (suc n) = codes ", \"properties\": {\"moreNotes\": " ++ decimal (suc n) ++ codes "}"

abbrev pub result_object : KeptRow → List ℕ
result_object row = result_meaning row ++ result_place row ++ related_member row.notes ++ more_member row.more ++ print_member row.fingerprint

-- what stands before the rules: the log (3.13), its run (3.14) and the run's tool (3.18, 3.19)
unfoldable pub before_rules : List ℕ
before_rules = codes "{\n  \"$schema\": \"https://json.schemastore.org/sarif-2.1.0.json\",\n  \"version\": \"2.1.0\",\n  \"runs\": [\n    {\n      \"tool\": {\n        \"driver\": {\n          \"name\": \"nullcheck\",\n          \"rules\": [\n"

-- what stands between the rules and the results; a column counts characters, and not bytes
unfoldable pub before_results : List ℕ
before_results = codes "\n          ]\n        }\n      },\n      \"columnKind\": \"unicodeCodePoints\",\n      \"results\": [\n"

unfoldable pub behind_results : List ℕ
behind_results = codes "\n      ]\n    }\n  ]\n}\n"

abbrev pub sarif_document : Option (List ℕ) → List KeptRow → List ℕ
sarif_document address rows = before_rules ++ listed (rule_object address) (occurring rows all_codes) ++ before_results ++ listed result_object rows ++ behind_results

abbrev pub sarif_shown : Option (List ℕ) → List ShownRow → Option Verdict → List ℕ
sarif_shown address = documented (sarif_document address)
