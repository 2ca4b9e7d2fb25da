use Rattle.std.proofs.Common.{refl}
use Rattle.jn_renumber.proofs.Entries.{still_known}
use Rattle.jn_lex_shared.proofs.Lexing.{lexed, only_lexed}
use Rattle.jn_lex_shared.proofs.law.own_names_can_be_merged.Goals as goal

pub returns-clause-lexed : goal.returns-clause-lexed
returns-clause-lexed c = lexed

pub returns-clause-only : goal.returns-clause-only
returns-clause-only c = only_lexed

pub returns-clause-begun : goal.returns-clause-begun
returns-clause-begun c = refl

pub returns-clause-kept : goal.returns-clause-kept
returns-clause-kept c = still_known
