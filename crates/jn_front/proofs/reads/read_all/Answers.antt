use Rattle.std.proofs.Common.{ap, ◌∙◌, Vec, Global}
use Rattle.jn_front.specs.declared.source.SourceRead.{SourceRead}
use Rattle.std.specs.Prelude.{string_bytes}
use Rattle.jn_front.proofs.Reading.{one_more, held_now, passed_on, starts_so_far, starts_more}
use Rattle.jn_front.proofs.reads.read_all.Goals as goal

pub returns-in_err-read-clause-steady : goal.returns-in_err-read-clause-steady
returns-in_err-read-clause-steady g c s all cannot =
    let steady = c.names.invariant.steady s all in
    let held = held_now (g.F.Files.held c.args.files.now) (g.F.Files.held c.names.files) c.args.names.now c.names.name-index c.name-item.result c.as_str.result.now c.names.invariant.held c.names-test.true c.as_str.ensures.value c.name-item.is all in
    c.in_err-read.ensures.steady steady held (passed_on (Vec SourceRead Global) SourceRead c.from_residual.result c.in_err-read.field-0.0 c.from_residual.ensures.1 cannot)

pub names-preserved : goal.names-preserved
names-preserved g c = record {
  read = one_more (g.F.Files.held c.args.files.now) (g.F.Files.held c.names.files) (g.F.Files.gave c.args.files.now) (g.F.Files.gave c.names.files) (g.F.Files.gave c.read_one.new.files) c.args.names.now c.names.name-index c.name-item.result c.as_str.result.now c.names.reads.items c.put_read.new.reads.items c.in_ok-read.read c.names.invariant.held c.names-test.true (c.as_str.ensures.value ∙ ap string_bytes c.name-item.is) c.names.invariant.read c.in_ok-read.ensures.ok c.in_ok-put_read.ensures.put;
  held = c.in_ok-read.ensures.held ∙ c.names.invariant.held;
  faults = c.in_ok-read.ensures.kept (λ e. e) ∙ c.names.invariant.faults;
  steady = λ s all. c.in_ok-read.ensures.stays (c.names.invariant.steady s all) (held_now (g.F.Files.held c.args.files.now) (g.F.Files.held c.names.files) c.args.names.now c.names.name-index c.name-item.result c.as_str.result.now c.names.invariant.held c.names-test.true c.as_str.ensures.value c.name-item.is all);
}

pub returns-in_err-read-clause-started : goal.returns-in_err-read-clause-started
returns-in_err-read-clause-started g c =
    starts_more (g.F.Files.held c.args.files.now) (g.F.Files.gave c.args.files.now) (g.F.Files.gave c.names.files) (g.F.Files.gave c.read_one.new.files) c.args.names.now c.names.name-index _ c.name-item.result c.as_str.result.now c.names.reads.items c.names-test.true (c.as_str.ensures.value ∙ ap string_bytes c.name-item.is) c.names.invariant.read c.in_err-read.ensures.little

pub returns-in_err-put_read-clause-started : goal.returns-in_err-put_read-clause-started
returns-in_err-put_read-clause-started g c =
    starts_more (g.F.Files.held c.args.files.now) (g.F.Files.gave c.args.files.now) (g.F.Files.gave c.names.files) (g.F.Files.gave c.read_one.new.files) c.args.names.now c.names.name-index _ c.name-item.result c.as_str.result.now c.names.reads.items c.names-test.true (c.as_str.ensures.value ∙ ap string_bytes c.name-item.is) c.names.invariant.read c.in_ok-read.ensures.little

pub returns-clause-started : goal.returns-clause-started
returns-clause-started g c = starts_so_far (g.F.Files.held c.args.files.now) (g.F.Files.gave c.args.files.now) (g.F.Files.gave c.names.files) c.args.names.now c.names.name-index c.names.reads.items c.names.invariant.read
