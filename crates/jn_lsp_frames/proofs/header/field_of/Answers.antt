use Rattle.std.proofs.Common.{sym, ◌+◌, take, drop, subst}
use Rattle.std.proofs.lemmas.Bool.{both_ways}
use Rattle.std.proofs.lemmas.List.{take_rest}
use Rattle.jn_lsp_frames.specs.Lines.{SaysNumber}
use Rattle.jn_lsp_frames.proofs.Fields.{colon_field, colon_none}
use Rattle.jn_lsp_frames.proofs.header.field_of.Goals as goal

pub returns-in-None : goal.returns-in-None
returns-in-None c = colon_none c.args.line.now (sym c.in-None.ensures.is)

pub returns-then-eq_ignore_ascii_case : goal.returns-then-eq_ignore_ascii_case
returns-then-eq_ignore_ascii_case c = record {
  name = take c.in-Some.at c.args.line.now;
  value = drop (c.in-Some.at + 1) c.args.line.now;
  field = colon_field c.args.line.now c.in-Some.at (sym c.in-Some.ensures.is);
  named = c.eq_ignore_ascii_case.ensures.test.0 c.if-eq_ignore_ascii_case.true;
  says = subst (λ v. SaysNumber v c.number_in.result) (take_rest c.args.line.now (c.in-Some.at + 1)) c.number_in.ensures;
}

pub returns-else-eq_ignore_ascii_case : goal.returns-else-eq_ignore_ascii_case
returns-else-eq_ignore_ascii_case c = record {
  name = take c.in-Some.at c.args.line.now;
  value = drop (c.in-Some.at + 1) c.args.line.now;
  field = colon_field c.args.line.now c.in-Some.at (sym c.in-Some.ensures.is);
  other = λ named. both_ways c.eq_ignore_ascii_case.result c.if-eq_ignore_ascii_case.false (c.eq_ignore_ascii_case.ensures.test.1 named);
}
