use Rattle.std.proofs.Common.{◌∙◌}
use Rattle.jn_known.specs.Known.{known_names}
use Rattle.jn_annotate_law.proofs.Unchanged.{annotated_again, unchanged}
use Rattle.jn_annotate_law.proofs.law.nothing_is_annotated_twice.Goals as goal

pub returns : goal.returns
returns c = record {
  same = λ said imports P s texts names new tokens trees l p none a. a.are ∙ unchanged imports said P s texts names tokens trees known_names none l p;
  again = λ imports P s texts names tokens trees l p none small. annotated_again P s none imports texts names tokens trees known_names l p small;
}
