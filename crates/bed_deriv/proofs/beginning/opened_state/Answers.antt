use Rattle.std.proofs.Common.{◌≡◌, IfOk, subst}
use Rattle.bed_deriv.specs.Opening.{first_locals, opened_alone, started}
use Rattle.bed_deriv.proofs.beginning.opened_state.Goals as goal

pub returns : goal.returns
returns c =
    let l : c.in_ok-locals.locals ≡ first_locals c.as_slice.result.now c.arguments_of-arguments.result 0 = c.in_ok-locals.ensures in
    let n = c.others-next.ensures in
    let k = c.len.ensures in
    let a = c.arguments_of-arguments.ensures in
    let e : opened_alone c.in_ok-locals.locals c.others-next.result c.args.c.now.start ≡ started c.args.c.now c.args.decls.now = cc in
    subst (λ t. IfOk c.open.result (λ s. s ≡ t)) e c.open.ensures
