-- The files that are asked for are those that are read.
use Rattle.std.proofs.Common.{◌≡◌, ℕ, ◌≤◌, List, length, map, ap, ◌∙◌, arith}
use Rattle.std.specs.Prelude.{Option, string_bytes}
use Rattle.std.specs.declared.string.String.{String}
use Rattle.std.specs.declared.alloc.Global.{Global}
use Rattle.jn_outside.specs.declared.given.Given.{Given}
use Rattle.jn_outside.specs.Files.{Holding}
use Rattle.jn_front.specs.declared.source.SourceFile.{SourceFile}
use Rattle.jn_front.specs.declared.source.SourceRead.{SourceRead}
use Rattle.jn_front.specs.Files.{AreReads, ReadFrom, most_files}
use Rattle.jn_command.specs.Answer.{reading}
use Rattle.jn_cli.specs.declared.annotate.Wanted.{Wanted}
use Rattle.std.proofs.lemmas.List.{length-map}
use Rattle.nullcheck_annotate_top.specs.declared.output.Output.{Output}
use Rattle.nullcheck_annotate_top.specs.Answer.{IsOutputOf}
use Rattle.nullcheck_annotate_top.specs.Output.{IsOutput}

pub few_words : (words : List (String Global)) (files : List (List ℕ)) → map string_bytes words ≡ files → length files ≤ 64 → length words ≤ most_files
few_words words files named few = let long = length-map words string_bytes in let same : length (map string_bytes words) ≡ length files = ap length named in omega (arith, long, same, few)

-- the output of what was read is that of the files that are asked for
pub output_of_read : (held : Option Holding) (before now : List Given) (names : List (List ℕ)) (reads : List SourceRead) (wanted : Wanted) (output : Output) → names ≡ wanted.files → (from : ReadFrom held names before now reads) → ((files : List SourceFile) → AreReads reads files → IsOutput wanted.infer wanted.terse wanted.imports wanted.mode files output) → IsOutputOf (reading held before now) wanted output
output_of_read held before now names reads wanted output named from is = record {
  files = from.files;
  are = record { named = from.named ∙ named; told = λ few. from.told; given = λ few. from.given };
  is = is from.files from.are;
}
