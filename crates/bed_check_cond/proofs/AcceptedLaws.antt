-- What an accepted tree promises of its condition.
use Rattle.std.proofs.Common.{◌<◌, IsTrue, Result, Ok, Err, OnOk}
use Rattle.bed_lang.specs.declared.condition.Decls.{Decls}
use Rattle.bed_lang.specs.declared.condition.Cond.{Cond}
use Rattle.bed_sat.specs.Valid.{IsValid}
use Rattle.bed_deriv.specs.declared.derivation.Deriv.{Deriv}
use Rattle.bed_deriv.specs.Derives.{checked}
use Rattle.bed_deriv.specs.Fresh.{AreUnfresh, unfresh_condition, condition_size}
use Rattle.bed_check_pure.specs.declared.verdict.Verdict.{Verdict}
use Rattle.bed_check_pure.specs.declared.verdict.Verdict.TheVariants.{Reject, Memory}
use Rattle.bed_check_pure.specs.Answers.{Answers}
use Rattle.bed_check_cond.proofs.DerivedLaws.{derived_is_valid}

pub accepted_valid : (d : Decls) (c : Cond) (t : Deriv) (r : Result (Unit {0}) Verdict) → AreUnfresh d → IsTrue (unfresh_condition c) → condition_size c < 4294967295
    → Answers r (checked d c t) → OnOk r (IsValid d c)
accepted_valid d c t (Ok u) unfresh known size (last, e) = derived_is_valid d c t unfresh known size (record { last = last; accepted = e })
accepted_valid d c t (Err (Reject node premise)) unfresh known size a = tt
accepted_valid d c t (Err Memory) unfresh known size a = tt
