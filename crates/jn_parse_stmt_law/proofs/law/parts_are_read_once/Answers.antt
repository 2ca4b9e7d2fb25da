use Rattle.jn_parse_expr_law.specs.Reader.{reader}
use Rattle.jn_parse_expr_law.proofs.Sound.{annotations_spell}
use Rattle.jn_parse_stmt_law.proofs.Fronts.{annotations_exact, marks_spell, marks_exact, type_use_spells, type_use_exact, parameter_sound, parameter_exact}
use Rattle.jn_parse_stmt_law.proofs.Declarators.{declarators_sound, declarators_exact, local_sound, local_exact}
use Rattle.jn_parse_stmt_law.proofs.Laws.{whole_at}
use Rattle.jn_parse_stmt_law.proofs.law.parts_are_read_once.Goals as goal

pub returns : goal.returns
returns c = record {
  annotations_spelled = annotations_spell;
  annotations = annotations_exact;
  marks_spelled = marks_spell;
  marks = marks_exact;
  type_use_spelled = type_use_spells;
  type_use = type_use_exact;
  parameter_spelled = parameter_sound;
  parameter = parameter_exact;
  declarators_spelled = λ d. declarators_sound d (reader d).whole (whole_at d);
  declarators = λ d. declarators_exact d (reader d).whole (whole_at d);
  local_spelled = λ d. local_sound d (reader d).whole (whole_at d);
  local = λ d. local_exact d (reader d).whole (whole_at d);
}
