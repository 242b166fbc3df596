-- What an accepted tree promises.
use Rattle.std.proofs.Common.{Result, Ok, Err, OnOk}
use Rattle.bed_lang.specs.declared.logic.Pure.{Pure}
use Rattle.bed_lang.specs.declared.condition.Decls.{Decls}
use Rattle.bed_deriv.specs.declared.derivation.Deriv.{Deriv}
use Rattle.bed_deriv.specs.declared.state.SymState.{SymState}
use Rattle.bed_check_pure.specs.declared.verdict.Verdict.{Verdict}
use Rattle.bed_check_pure.specs.declared.verdict.Verdict.TheVariants.{Reject, Memory}
use Rattle.bed_check_pure.specs.Answers.{walked, Answers}
use Rattle.bed_check_pure.specs.Sound.{Follows}
use Rattle.bed_check_pure.proofs.WalkLaws.{walked-follows}

pub accepted_follows : (d : Decls) (s : SymState) (goal : Pure) (t : Deriv) (r : Result (Unit {0}) Verdict)
    → Answers r (walked d s goal t) → OnOk r (Follows d s goal)
accepted_follows d s goal t (Ok u) (last, e) = walked-follows d s goal t last e
accepted_follows d s goal t (Err (Reject node premise)) a = tt
accepted_follows d s goal t (Err Memory) a = tt
