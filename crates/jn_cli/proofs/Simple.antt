-- Each program's command is one of which clap says what it takes.
use Rattle.std.proofs.Common.{◌≡◌, ℕ, true, List, refl}
use Rattle.clap.specs.Words.{is_simple_and_free}
use Rattle.clap.proofs.OnLiterals.{clap_on_literals}
use Rattle.jn_cli.specs.Annotate.{annotate_app}
use Rattle.jn_cli.specs.Names.{names_app}
use Rattle.jn_cli.specs.Server.{server_app}
use Rattle.jn_cli.specs.Words.{nullcheck_app}

pub nullcheck_free : is_simple_and_free nullcheck_app ≡ true
unfolding clap_on_literals nullcheck_app
nullcheck_free = refl

pub annotate_free : is_simple_and_free annotate_app ≡ true
unfolding clap_on_literals annotate_app
annotate_free = refl

pub names_free : (program : List ℕ) → is_simple_and_free (names_app program) ≡ true
unfolding clap_on_literals names_app
names_free program = refl

pub server_free : is_simple_and_free server_app ≡ true
unfolding clap_on_literals server_app
server_free = refl
