use Rattle.bed_check_pure.proofs.TableLaws.{comb_is_sound, solve_is_sound, chain_is_sound}
use Rattle.bed_check_pure.proofs.laws.words.Goals as goal

pub returns-clause-comb : goal.returns-clause-comb
returns-clause-comb c = comb_is_sound

pub returns-clause-solve : goal.returns-clause-solve
returns-clause-solve c = solve_is_sound

pub returns-clause-chain : goal.returns-clause-chain
returns-clause-chain c = chain_is_sound
