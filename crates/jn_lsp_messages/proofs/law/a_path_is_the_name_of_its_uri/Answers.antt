use Rattle.std.proofs.Common.{arith}
use Rattle.std.proofs.lemmas.List.Elements.{All-from_get_or}
use Rattle.std.proofs.lemmas.Str.{is_utf8-from_IsUtf8}
use Rattle.percent_encoding.proofs.PercentLemmas.{IsByte}
use Rattle.jn_lsp_messages.proofs.Named.{name_back}
use Rattle.jn_lsp_messages.proofs.law.a_path_is_the_name_of_its_uri.Goals as goal

pub returns : goal.returns
returns c =
    let small = All-from_get_or IsByte c.args.path.now 0 (λ i within. let fits = c.type_inv.path i in omega arith) in
    name_back c.args.path.now small (is_utf8-from_IsUtf8 c.args.path.now c.utf8.path) c.requires
