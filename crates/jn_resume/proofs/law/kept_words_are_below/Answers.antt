use Rattle.std.proofs.Common.{ℕ, List, bit_or, sym, ◌∙◌, subst}
use Rattle.std.specs.Prelude.{slice_index}
use Rattle.jn_sigtable.specs.System.{Within, least}
use Rattle.jn_sigtable.proofs.LeastWords.{least_is_least}
use Rattle.jn_resume.specs.Keepable.{AreKeepable}
use Rattle.jn_resume.proofs.Below.{kept_below}
use Rattle.jn_resume.proofs.law.kept_words_are_below.Goals as goal

pub returns : goal.returns
returns c = λ old new before start last changed lost e keep w lt.
    subst (λ (l : List ℕ). Within (slice_index l w) (bit_or (slice_index (least new start) w) (lost w))) (sym e.was)
    (kept_below old new before start changed lost e.old_lawful e.new_lawful e.agrees
    (least_is_least old e.old_lawful before e.before_count e.before_small)
    (least_is_least new e.new_lawful start e.start_count e.start_small)
    (e.start_count ∙ sym e.agrees.words)
    (subst (λ (l : List ℕ). AreKeepable old new before start l changed lost) e.was keep) w lt)
