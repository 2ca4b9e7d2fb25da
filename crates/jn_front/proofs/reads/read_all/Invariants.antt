use Rattle.std.proofs.Common.{◌≡◌, take, map}
use Rattle.std.specs.Prelude.{string_bytes}
use Rattle.jn_front.specs.Files.{ReadFrom, AllHeld}
use Rattle.jn_front.proofs.reads.read_all.Given as goal

abbrev pub invariant-names : goal.invariant-names
invariant-names g l = let f = g.F.Files in record {
  read : ReadFrom (f.held l.fn.files) (map string_bytes (take l.name-index l.names)) (f.gave l.fn.files) (f.gave l.files) l.reads.items;
  held : f.held l.files ≡ f.held l.fn.files;
  faults : f.faults l.files ≡ f.faults l.fn.files;
  steady : f.steady l.fn.files → AllHeld (f.held l.fn.files) (map string_bytes l.names) → f.steady l.files;
}
