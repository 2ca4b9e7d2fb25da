use Rattle.std.proofs.Common.{◌≡◌, ◌++◌, take}
use Rattle.jn_folder.specs.Listing.{files_in, folders_in, unnamed_in}
use Rattle.jn_folder.proofs.paths.put_entries.Given as goal

abbrev pub invariant-loop-entry : goal.invariant-loop-entry
invariant-loop-entry l = record {
  files : l.files.items ≡ l.fn.files.items ++ files_in l.path (take l.entry-index l.entries);
  folders : l.folders.items ≡ l.fn.folders.items ++ folders_in l.skipped l.path (take l.entry-index l.entries);
  unnamed : l.unnamed.items ≡ l.fn.unnamed.items ++ unnamed_in l.path (take l.entry-index l.entries);
}
