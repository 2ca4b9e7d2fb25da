use Rattle.std.proofs.Common.{◌≡◌, ◌++◌, take}
use Rattle.std.specs.List.{flat_map}
use Rattle.std.specs.String.{string_bytes}
use Rattle.jn_lsp_messages.specs.Outgoing.{reason_words}
use Rattle.jn_lsp_messages.proofs.hovers.with_reasons.Given as goal

abbrev pub invariant-loop-one : goal.invariant-loop-one
invariant-loop-one l = string_bytes l.all ≡ l.words ++ flat_map (reason_words l.markup) (take l.one-index l.related)
