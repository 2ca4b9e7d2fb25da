use Rattle.jn_diff.proofs.Patching.{patched}
use Rattle.jn_diff.proofs.law.hunks_patch_the_text.Goals as goal

pub returns : goal.returns
returns c = patched
