use Rattle.jn_annotate_law.proofs.Files.{all_imported}
use Rattle.jn_annotate_law.proofs.law.annotated_files_have_their_imports.Goals as goal

pub returns : goal.returns
returns c = all_imported
