use Rattle.std.proofs.Common.{◌≡◌, take}
use Rattle.jn_report_formats.proofs.kept.copied.Given as goal

abbrev pub invariant-loop-note : goal.invariant-loop-note
invariant-loop-note l = l.copies ≡ take l.note-index l.notes
