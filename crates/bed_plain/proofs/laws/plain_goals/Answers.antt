use Rattle.bed_plain.proofs.PlainLaws.{plain_accepted}
use Rattle.bed_plain.proofs.ChainLaws.{chain_says}
use Rattle.bed_plain.proofs.laws.plain_goals.Goals as goal

pub returns : goal.returns
returns c = record {
  accepted = λ d s g t is. plain_accepted d s g t is;
  chains = λ d s v solves g args is. chain_says d s v solves g args is;
}
