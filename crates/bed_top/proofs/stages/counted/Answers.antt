use Rattle.std.proofs.Common.{◌≡◌, false, List, nat_lt, sym, ◌∙◌, ap, arith}
use Rattle.std.proofs.lemmas.Bool.Decides.{nat_tests}
use Rattle.bed_lang.specs.declared.module.Module.{Module}
use Rattle.bed_top.specs.Causes.{function_count}
use Rattle.bed_top.proofs.LeafLemmas.{counted_stop, counted_pass}
use Rattle.bed_top.proofs.stages.counted.Goals as goal

pub returns-then-have_more_functions-clause-gives : goal.returns-then-have_more_functions-clause-gives
returns-then-have_more_functions-clause-gives c = λ v job.
    counted_stop v job c.args.modules _ (ap (λ (ms : List Module). nat_lt 1024 (function_count ms)) (sym c.deref.ensures.value) ∙ sym c.if-have_more_functions.ensures) c.refuse_limit.ensures

pub returns-clause-gives : goal.returns-clause-gives
returns-clause-gives c = λ v job.
    counted_pass v job c.args.modules (ap (λ (ms : List Module). nat_lt 1024 (function_count ms)) (sym c.deref.ensures.value) ∙ sym c.if-have_more_functions.ensures)

pub returns-clause-few : goal.returns-clause-few
returns-clause-few c =
    let less : nat_lt 1024 (function_count c.args.modules.items) ≡ false =
    ap (λ (ms : List Module). nat_lt 1024 (function_count ms)) (sym c.deref.ensures.value) ∙ sym c.if-have_more_functions.ensures in
    grind (arith, nat_tests)
