use Rattle.std.proofs.Common.{◌∙◌, ap}
use Rattle.clap.specs.Words.{is_simple_and_free}
use Rattle.jn_cli.proofs.Simple.{nullcheck_free}
use Rattle.jn_cli.proofs.parse.read_options.Goals as goal

pub take_words-requires : goal.take_words-requires
take_words-requires c = record { simple = ap is_simple_and_free c.nullcheck_table.ensures ∙ nullcheck_free }
