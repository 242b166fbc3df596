use Rattle.bed_names.proofs.TermLemmas.{add_notes, sub_notes}
use Rattle.bed_names.proofs.terms.+word.Goals as goal

pub returns-in-Add : goal.returns-in-Add
returns-in-Add t c =
    add_notes c.args.scope.now c.args.found c.word.result c.word-in-Add.result c.args.w.now c.in-Add.a c.in-Add.b
    c.get.result.now c.get-in-Add.result.now c.in-Add.is c.get.ensures c.get-in-Add.ensures c.word.ensures c.word-in-Add.ensures

pub returns-in-Sub : goal.returns-in-Sub
returns-in-Sub t c =
    sub_notes c.args.scope.now c.args.found c.word-in-Sub.result c.word-in-Sub-2.result c.args.w.now c.in-Sub.a c.in-Sub.b
    c.get-in-Sub.result.now c.get-in-Sub-2.result.now c.in-Sub.is c.get-in-Sub.ensures c.get-in-Sub-2.ensures
    c.word-in-Sub.ensures c.word-in-Sub-2.ensures
