use Rattle.jn_origins.proofs.Beyond.{all_least}
use Rattle.jn_origins.proofs.law.what_stands_has_a_chain.Goals as goal

pub returns : goal.returns
returns c = λ P s tables i l long least x st.
    c.each_bit_has_a_chain.ensures P s tables i l (λ b. all_least P s b tables long (least b)) x st
