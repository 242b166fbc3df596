use Rattle.std.proofs.Common.{Ok, Err, arith}
use Rattle.bed_read.proofs.Counts.{read_counts}
use Rattle.bed_read.proofs.Wholes.{whole_read, whole_faulty, refused_read, complete}
use Rattle.bed_read.proofs.whole.read_module.Goals as goal

pub returns-in-None-clause-exact : goal.returns-in-None-clause-exact
returns-in-None-clause-exact c = whole_read c.args.text.now _ _ _ _ c.in_ok-tokens.ensures (cc) (cc) c.in-Ok.ensures

pub returns-in-None-clause-counts : goal.returns-in-None-clause-counts
returns-in-None-clause-counts c = read_counts c.args.text.now c.in-Ok.module (returns-in-None-clause-exact c)

pub returns-in-None-clause-complete : goal.returns-in-None-clause-complete
returns-in-None-clause-complete c = λ m k. complete c.args.text.now m k.0 k.1 k.2 (Ok c.in-Ok.module) (returns-in-None-clause-exact c)

pub returns-in-Ok-clause-exact : goal.returns-in-Ok-clause-exact
returns-in-Ok-clause-exact c = whole_faulty c.args.text.now _ _ _ _ _ _ c.in_ok-tokens.ensures (cc) (cc) c.in-Ok.ensures c.into_error.ensures

pub returns-in-Ok-clause-complete : goal.returns-in-Ok-clause-complete
returns-in-Ok-clause-complete c = λ m k. complete c.args.text.now m k.0 k.1 k.2 (Err c.into_error.result) (returns-in-Ok-clause-exact c)

pub returns-clause-exact : goal.returns-clause-exact
returns-clause-exact c =
    let h = rw c.in-Err-At.field-0-is at c.in-Err-At.ensures in
    refused_read c.args.text.now _ _ _ _ _ _ _ _ c.in_ok-tokens.ensures (cc) (cc) h (omega arith) c.refused.ensures

pub returns-clause-complete : goal.returns-clause-complete
returns-clause-complete c = λ m k. complete c.args.text.now m k.0 k.1 k.2 (Err c.refused.result) (returns-clause-exact c)
