-- Which members are inferred by the settings.
use Rattle.std.specs.Prelude.{ℕ, List, bytes_eq, codes, if◌then◌else◌}
use Rattle.jn_base.specs.declared.infer.Infer.{Infer}
use Rattle.jn_base.specs.declared.infer.Infer.TheVariants.{Private, Package}
use Rattle.jn_lsp_text.specs.declared.choice.Choice.{Choice}
use Rattle.jn_lsp_text.specs.declared.choice.Choice.TheVariants.{Unsaid, Said, Wrong}

-- what a name says
abbrev pub choice_named : List ℕ → Choice
choice_named name = if bytes_eq name (codes "private") then Said Private else if bytes_eq name (codes "package") then Said Package else Wrong

-- what is said, else what was chosen before
abbrev pub chosen : Choice → Infer → Infer
chosen Unsaid infer = infer
chosen (Said said) infer = said
chosen Wrong infer = infer
