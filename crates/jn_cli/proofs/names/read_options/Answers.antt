use Rattle.std.proofs.Common.{◌∙◌, ap}
use Rattle.clap.specs.Words.{is_simple_and_free}
use Rattle.jn_cli.proofs.Simple.{names_free}
use Rattle.jn_cli.proofs.names.read_options.Goals as goal

pub take_words-requires : goal.take_words-requires
take_words-requires c = record { simple = ap is_simple_and_free c.names_table.ensures ∙ names_free c.args.program.now }
