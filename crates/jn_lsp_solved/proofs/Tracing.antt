-- Chains of what stands, over the origins of solved files.
use Rattle.std.proofs.Common.{ℕ, ◌≡◌, ◌<◌, List, [], length, sym, subst}
use Rattle.std.specs.Prelude.{slice_index_or}
use Rattle.jn_chain.specs.Search.{Ground}
use Rattle.jn_env.specs.Order.{Table}
use Rattle.jn_inference_law.specs.Solution.{IsLeastSignature}
use Rattle.jn_points.specs.declared.program.Program.{Program}
use Rattle.jn_quals.specs.Qualifier.{Qualifier}
use Rattle.jn_reasons_law.specs.Chains.{HasChain}
use Rattle.jn_reasons_law.specs.Choice.{IsFirstChain}
use Rattle.jn_reasons_law.specs.Items.{Stands}
use Rattle.jn_reasons_law.specs.declared.item.Item.{Item}
use Rattle.jn_reasons_law.specs.declared.item.Step.{Step}
use Rattle.jn_tables_law.specs.Inferable.{IsInferable}
use Rattle.jn_transfer.specs.Least.{IsLeastTable}
use Rattle.jn_lsp_solved.specs.Solving.{AreOriginsOf, AreSolved, SolvedFiles}

-- what stands has one
pub has_chain : ((P : Program) (s : List Qualifier) (tables : List Table) → IsInferable P → IsLeastSignature P s → length tables ≡ length P.bodies → ((b : ℕ) → b < length P.bodies → IsLeastTable P s b (slice_index_or tables b [])) → (x : Item) → Stands s tables x → HasChain P s tables x)
    → (v : SolvedFiles) (ground : Ground) (x : Item) → AreSolved v → AreOriginsOf v ground → Stands v.sig v.tables x → HasChain ground.program ground.sig ground.tables x
has_chain law v ground x facts of stands =
    subst (λ (P : Program). HasChain P ground.sig ground.tables x) (sym of.program)
    (subst (λ (s : List Qualifier). HasChain v.program s ground.tables x) (sym of.sig)
    (subst (λ (ts : List Table). HasChain v.program v.sig ts x) (sym of.tables)
    (law v.program v.sig v.tables facts.inferable facts.least facts.solved.long facts.solved.least x stands)))

-- the first one is that of the solved files
pub first_there : (v : SolvedFiles) (ground : Ground) (x : Item) (steps : List Step) → AreOriginsOf v ground → IsFirstChain ground.program ground.sig ground.tables x steps → IsFirstChain v.program v.sig v.tables x steps
first_there v ground x steps of first =
    subst (λ (P : Program). IsFirstChain P v.sig v.tables x steps) of.program
    (subst (λ (s : List Qualifier). IsFirstChain ground.program s v.tables x steps) of.sig
    (subst (λ (ts : List Table). IsFirstChain ground.program ground.sig ts x steps) of.tables first))
