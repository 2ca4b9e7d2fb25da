use Rattle.jn_renumber.proofs.Entries.{entry_found, merged_with, still_known}
use Rattle.jn_renumber.proofs.law.merged_names_are_found_by_their_entries.Goals as goal

pub returns-clause-entry : goal.returns-clause-entry
returns-clause-entry c = entry_found

pub returns-clause-with : goal.returns-clause-with
returns-clause-with c = merged_with

pub returns-clause-known : goal.returns-clause-known
returns-clause-known c = still_known
