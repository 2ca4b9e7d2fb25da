use Rattle.std.proofs.Common.{◌∙◌, map}
use Rattle.std.specs.Prelude.{string_bytes}
use Rattle.clap.specs.Words.{app_of}
use Rattle.jn_cli.specs.Tables.{app_with, table_of}
use Rattle.jn_cli.proofs.Taken.{found, refused, taken}
use Rattle.jn_cli.proofs.table.take_words.Goals as goal

pub returns-in-Ok-try_get_matches_from-clause-taken : goal.returns-in-Ok-try_get_matches_from-clause-taken
returns-in-Ok-try_get_matches_from-clause-taken c = taken (app_of c.in-Ok.command) (app_with (table_of c.args.table)) c.in-Ok.ensures c.requires.simple (map string_bytes c.args.words.now) c.in-Ok-try_get_matches_from.ensures.kinds

pub returns-in-Ok-try_get_matches_from-clause-ok : goal.returns-in-Ok-try_get_matches_from-clause-ok
returns-in-Ok-try_get_matches_from-clause-ok c = found (app_of c.in-Ok.command) (app_with (table_of c.args.table)) c.in-Ok.ensures c.requires.simple (map string_bytes c.args.words.now) c.in-Ok-try_get_matches_from.matches c.in-Ok-try_get_matches_from.ensures.matches

pub returns : goal.returns
returns c = record {
  taken = tt;
  ok = tt;
  usage = refused (app_of c.in-Ok.command) (app_with (table_of c.args.table)) c.in-Ok.ensures c.requires.simple (map string_bytes c.args.words.now) c.in-Err-try_get_matches_from.error
      (λ e. c.in_default.not-OutOfMemory (c.kind.ensures ∙ e)) c.in-Err-try_get_matches_from.ensures.kinds;
}
