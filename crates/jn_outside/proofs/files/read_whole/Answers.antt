use Rattle.std.proofs.Common.{rules, ℕ, List, ◌+◌, ◌++◌, ◌∷◌, [], sym, ap, ◌∙◌, arith}
use Rattle.jn_outside.specs.Gave.{given}
use Rattle.jn_outside.proofs.Giving.{behind, little_behind}
use Rattle.jn_outside.proofs.files.read_whole.Goals as goal

pub returns-in_err-read_piece-clause-gave_little : goal.returns-in_err-read_piece-clause-gave_little
returns-in_err-read_piece-clause-gave_little g c =
    let given = c.in_err-read_piece.ensures.gave in
    little_behind (g.F.Files.gave c.args.files.now) (g.F.Files.gave c.loop-bytes.files) (g.F.Files.gave c.read_piece.new.files) c.args.name.now c.loop-bytes.bytes.items given.0 _ (c.args.limit + 1) c.loop-bytes.invariant.gave given.1 (omega (arith, c.loop-bytes.invariant.small, c.len-in-loop-bytes.ensures))

pub returns-then-branch-eq0-clause-gave : goal.returns-then-branch-eq0-clause-gave
returns-then-branch-eq0-clause-gave g c =
    let more = c.in_ok-read_piece.ensures.gave in
    behind (g.F.Files.gave c.args.files.now) (g.F.Files.gave c.loop-bytes.files) (g.F.Files.gave c.read_piece.new.files) c.args.name.now c.loop-bytes.bytes.items more.0 _ c.loop-bytes.invariant.gave more.1
    ∙ ap (λ bytes. g.F.Files.gave c.args.files.now ++ given c.args.name.now bytes ∷ []) (sym {A = List ℕ} more.2)

pub returns-then-branch-eq0-clause-gave_little : goal.returns-then-branch-eq0-clause-gave_little
returns-then-branch-eq0-clause-gave_little g c =
    let more = c.in_ok-read_piece.ensures.gave in
    little_behind (g.F.Files.gave c.args.files.now) (g.F.Files.gave c.loop-bytes.files) (g.F.Files.gave c.read_piece.new.files) c.args.name.now c.loop-bytes.bytes.items more.0 _ (c.args.limit + 1) c.loop-bytes.invariant.gave more.1 (omega (arith, c.loop-bytes.invariant.small, c.len-in-loop-bytes.ensures))

pub loop-bytes-preserved : goal.loop-bytes-preserved
loop-bytes-preserved g c =
    let ok = c.in_ok-read_piece.ensures in
    record {
      held = ok.held ∙ c.loop-bytes.invariant.held;
      faults = search rules;
      so_far = search rules;
      gave = behind (g.F.Files.gave c.args.files.now) (g.F.Files.gave c.loop-bytes.files) (g.F.Files.gave c.read_piece.new.files) c.args.name.now c.loop-bytes.bytes.items ok.gave.0 _ c.loop-bytes.invariant.gave ok.gave.1
          ∙ ap (λ bytes. g.F.Files.gave c.args.files.now ++ given c.args.name.now bytes ∷ []) (sym {A = List ℕ} ok.gave.2);
      small = search rules;
      most = search rules;
      steady = search rules;
    }
